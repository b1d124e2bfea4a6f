use Rattle.std.proofs.Common.{ap, ◌∙◌}
use Rattle.std.specs.FinMap.{get}
use Rattle.spec_data.specs.Folding.{folded}
use Rattle.spec_data.specs.Scalars.{holds}
use Rattle.raven_value.specs.ScalarView.{test_view}
use Rattle.reference_track.specs.Sets.{is_one_of}
use Rattle.term_index.specs.Held.{passes}
use Rattle.term_index.proofs.Found.{found_members}
use Rattle.term_index.proofs.column.Column.passing.Goals as goal

pub returns-clause-members : goal.returns-clause-members
returns-clause-members c = λ q.
    c.in_order.ensures.members q
    ∙ (ap (is_one_of q) (c.into_vec.ensures ∙ c.in_ok-ids.ensures)
    ∙ (found_members (holds (test_view c.args.test.now) c.args.exact) c.self.inside.terms c.self.invariant.0 q
    ∙ ap (λ m. passes (test_view c.args.test.now) c.args.exact (get m (folded q))) c.self.view_is))
