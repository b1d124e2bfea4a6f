use Rattle.std.proofs.Common.{◌≡◌, ◌+ℤ◌, ◌*◌, ◌≤◌, ◌^◌, drop}
use Rattle.std.specs.Prelude.{unsigned_abs}
use Rattle.spec_measure.specs.Summary.{total_of}
use Rattle.raven_measure.proofs.summary.total_of.Given as goal

abbrev pub invariant-loop-row : goal.invariant-loop-row
invariant-loop-row l = record {
  total : total_of l.rows ≡ l.total +ℤ total_of (drop l.row-index l.rows);
  small : unsigned_abs l.total ≤ l.row-index * 2 ^ 63;
}
