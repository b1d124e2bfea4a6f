use Rattle.std.proofs.Common.{◌≡◌, ◌+◌, ◌-◌, ◌≤◌, drop, length}
use Rattle.std.specs.Str.{bytes_eq}
use Rattle.index_groups.specs.Cells.{place_of}
use Rattle.index_groups.proofs.plan.name_place.Given as goal

abbrev pub invariant-loop-place : goal.invariant-loop-place
invariant-loop-place l = record {
  within : l.place ≤ length l.names;
  left : l.place + place_of (bytes_eq l.name) (drop l.place l.names) ≡ place_of (bytes_eq l.name) l.names;
}

abbrev pub decreases-loop-place : goal.decreases-loop-place
decreases-loop-place l = length l.names - l.place
