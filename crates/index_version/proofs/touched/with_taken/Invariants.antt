use Rattle.std.proofs.Common.{◌≡◌, ◌||◌, ℕ, List, drop}
use Rattle.spec_data.specs.Folding.{folded}
use Rattle.spec_index.specs.Mapping.{is_in_batch}
use Rattle.reference_track.specs.Sets.{is_one_of}
use Rattle.index_version.proofs.touched.with_taken.Given as goal

abbrev pub invariant-loop-row : goal.invariant-loop-row
invariant-loop-row l = (x : List ℕ) → (is_in_batch (drop l.row-index l.taken) (folded x) || is_one_of x l.new) ≡ (is_in_batch l.taken (folded x) || is_one_of x l.fn.set)
