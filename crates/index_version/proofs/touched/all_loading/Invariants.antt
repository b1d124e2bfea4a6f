use Rattle.std.proofs.Common.{◌≡◌, ◌||◌, ℕ, List, drop}
use Rattle.std.specs.List.{list_any}
use Rattle.reference_track.specs.Sets.{is_one_of}
use Rattle.reference_track.specs.Tracks.{is_pair}
use Rattle.index_version.proofs.touched.all_loading.Given as goal

abbrev pub invariant-loop-row : goal.invariant-loop-row
invariant-loop-row l = (x : List ℕ) → (list_any (λ r. is_pair x r.id l.referrers) (drop l.row-index l.taken) || is_one_of x l.set) ≡ list_any (λ r. is_pair x r.id l.referrers) l.taken
