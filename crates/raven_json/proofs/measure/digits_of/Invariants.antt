use Rattle.std.proofs.Common.{◌≡◌, ◌≤◌, ◌+◌, length}
use Rattle.std.specs.Fmt.{decimal}
use Rattle.raven_json.proofs.measure.digits_of.Given as goal

-- the digits so far, and those of what is left, of which the last is counted from the start
abbrev pub invariant-loop-rest : goal.invariant-loop-rest
invariant-loop-rest l = record {
  digits : l.digits + length (decimal l.rest) ≡ 1 + length (decimal l.number);
  few : l.digits + l.rest ≤ l.number + 1;
}

abbrev pub decreases-loop-rest : goal.decreases-loop-rest
decreases-loop-rest l = l.rest
