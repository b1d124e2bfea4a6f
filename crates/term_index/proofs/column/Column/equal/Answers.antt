use Rattle.std.proofs.Common.{ap, ◌∙◌}
use Rattle.std.specs.FinMap.{get}
use Rattle.spec_data.specs.Folding.{folded}
use Rattle.spec_data.specs.Scalars.{Is, holds}
use Rattle.raven_value.specs.ScalarView.{scalar_view}
use Rattle.reference_track.specs.Sets.{is_one_of}
use Rattle.term_index.specs.Held.{passes}
use Rattle.term_index.proofs.Found.{found_members}
use Rattle.term_index.proofs.column.Column.equal.Goals as goal

pub returns-clause-members : goal.returns-clause-members
returns-clause-members c = λ q.
    ap (is_one_of q) c.in_ok-ids_of_value.ensures.ids
    ∙ (found_members (holds (Is (scalar_view c.args.value.now)) c.args.exact) c.self.inside.terms c.self.invariant.0 q
    ∙ ap (λ m. passes (Is (scalar_view c.args.value.now)) c.args.exact (get m (folded q))) c.self.view_is)
