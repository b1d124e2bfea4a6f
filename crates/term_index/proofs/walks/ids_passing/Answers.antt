use Rattle.std.proofs.Common.{◌∙◌}
use Rattle.raven_value.specs.ScalarView.{test_view}
use Rattle.term_index.proofs.Found.{passing_between}
use Rattle.term_index.proofs.walks.ids_passing.Goals as goal

pub returns : goal.returns
returns c = c.in_ok-ids_between.ensures ∙ passing_between (test_view c.args.test.now) c.args.exact c.in_ok-low.low c.in_ok-high.high c.in_ok-low.ensures c.in_ok-high.ensures c.args.terms.now
