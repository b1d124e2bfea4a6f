use Rattle.std.proofs.Common.{◌≡◌, ◌||◌, ℕ, List, drop, map}
use Rattle.std.specs.FinMap.{get}
use Rattle.spec_data.specs.Folding.{folded}
use Rattle.spec_data.specs.Scalars.{In}
use Rattle.raven_value.specs.ScalarView.{scalar_view}
use Rattle.reference_track.specs.Sets.{is_one_of}
use Rattle.term_index.specs.Held.{passes}
use Rattle.term_index.proofs.column.Column.equal_to_one.Given as goal

-- the ids so far and those of the values that are left
abbrev pub invariant-loop-value : goal.invariant-loop-value
invariant-loop-value l = (q : List ℕ) → is_one_of q l.ids.items || passes (In (map scalar_view (drop l.value-index l.values))) l.exact (get l.self (folded q)) ≡ passes (In (map scalar_view l.values)) l.exact (get l.self (folded q))
