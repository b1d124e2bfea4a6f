use Rattle.std.proofs.Common.{◌≡◌, ◌+◌, drop}
use Rattle.exact_tokens.specs.Passes.{run}
use Rattle.rql_tokens.specs.Spelling.{is_number_byte}
use Rattle.rql_tokens.proofs.classes.number_len.Given as goal

abbrev pub invariant-loop-byte : goal.invariant-loop-byte
invariant-loop-byte l = record {
  passed : l.len + run is_number_byte (drop l.byte-index l.bytes) ≡ run is_number_byte l.bytes;
  count : l.len ≡ l.byte-index;
}
