use Rattle.std.proofs.Common.{◌≡◌, ◌+◌, ◌++◌, [], IsUtf8, length, drop}
use Rattle.exact_tokens.specs.Passes.{text_from}
use Rattle.exact_tokens.proofs.texts.quoted.Given as goal

abbrev pub invariant-loop-byte : goal.invariant-loop-byte
invariant-loop-byte l = record {
  read : text_from l.quote l.escapes [] 0 l.bytes ≡ text_from l.quote l.escapes l.value.items l.len l.rest;
  fits : l.len + length l.rest ≡ length l.bytes;
  left : l.rest ≡ drop l.len l.bytes;
  utf8 : IsUtf8 (l.value.items ++ l.rest);
}

abbrev pub decreases-loop-byte : goal.decreases-loop-byte
decreases-loop-byte l = length l.rest
