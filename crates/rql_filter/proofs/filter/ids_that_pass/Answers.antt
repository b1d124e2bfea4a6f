use Rattle.std.proofs.Common.{ap, ◌∙◌}
use Rattle.spec_data.specs.Folding.{folded}
use Rattle.raven_value.specs.ScalarView.{test_view}
use Rattle.term_index.specs.Columns.{value_at}
use Rattle.term_index.specs.Held.{passes}
use Rattle.rql_filter.specs.Entries.{entry_at}
use Rattle.rql_filter.proofs.Conditions.{met_has}
use Rattle.rql_filter.proofs.filter.ids_that_pass.Goals as goal

pub returns-clause-members : goal.returns-clause-members
returns-clause-members g c = λ q.
    c.in_ok-range.ensures.members q
    ∙ (ap (λ name. passes (test_view c.args.test.now) c.args.exact (value_at name (folded q) c.args.terms.now)) c.as_str.ensures
    ∙ (ap (passes (test_view c.args.test.now) c.args.exact) (c.requires.values c.args.field.now (folded q))
    ∙ met_has c.args.field.now (test_view c.args.test.now) c.args.exact (entry_at (folded q) (g.E.Entries.entries c.args.entries.now))))
