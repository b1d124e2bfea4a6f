use Rattle.std.proofs.Common.{sym, subst}
use Rattle.raven_value.specs.ScalarView.{scalar_view}
use Rattle.reference_track.specs.Sets.{AreInOrder}
use Rattle.term_index.proofs.Runs.{ids_in_order}
use Rattle.term_index.proofs.walks.ids_of_value.Goals as goal

pub returns-clause-order : goal.returns-clause-order
returns-clause-order c = subst AreInOrder (sym c.in_ok-ids_passing.ensures) (ids_in_order (scalar_view c.in_ok-clone.field-0) c.args.exact c.args.terms.now c.len-terms.ensures.rising)
