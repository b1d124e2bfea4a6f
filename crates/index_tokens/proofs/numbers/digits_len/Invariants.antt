use Rattle.std.proofs.Common.{◌≡◌, ◌+◌, drop}
use Rattle.exact_tokens.specs.Bytes.{is_digit}
use Rattle.exact_tokens.specs.Passes.{run}
use Rattle.index_tokens.proofs.numbers.digits_len.Given as goal

abbrev pub invariant-loop-byte : goal.invariant-loop-byte
invariant-loop-byte l = record {
  passed : l.len + run is_digit (drop l.byte-index l.bytes) ≡ run is_digit l.bytes;
  count : l.len ≡ l.byte-index;
}
