use Rattle.std.proofs.Common.{◌≡◌, ◌≤◌, length}
use Rattle.exact_tokens.specs.Bytes.{number_from}
use Rattle.exact_tokens.proofs.numbers.magnitude.Given as goal

abbrev pub invariant-loop-byte : goal.invariant-loop-byte
invariant-loop-byte l = record {
  written : number_from 0 l.digits ≡ number_from l.number l.rest;
  small : l.number ≤ l.most;
}

abbrev pub decreases-loop-byte : goal.decreases-loop-byte
decreases-loop-byte l = length l.rest
