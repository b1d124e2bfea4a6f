use Rattle.std.proofs.Common.{◌≡◌, ◌||◌, ℕ, List, drop}
use Rattle.reference_track.specs.Sets.{is_one_of}
use Rattle.index_version.proofs.touched.with_all.Given as goal

abbrev pub invariant-loop-id : goal.invariant-loop-id
invariant-loop-id l = (x : List ℕ) → (is_one_of x (drop l.id-index l.ids) || is_one_of x l.new) ≡ (is_one_of x l.ids || is_one_of x l.fn.set)
