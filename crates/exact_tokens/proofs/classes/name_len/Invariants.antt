use Rattle.std.proofs.Common.{◌≡◌, ◌+◌, drop}
use Rattle.exact_tokens.specs.Bytes.{is_name_byte}
use Rattle.exact_tokens.specs.Passes.{run}
use Rattle.exact_tokens.proofs.classes.name_len.Given as goal

abbrev pub invariant-loop-byte : goal.invariant-loop-byte
invariant-loop-byte l = record {
  passed : l.len + run is_name_byte (drop l.byte-index l.bytes) ≡ run is_name_byte l.bytes;
  count : l.len ≡ l.byte-index;
}
