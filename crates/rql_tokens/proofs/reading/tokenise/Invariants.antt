use Rattle.std.proofs.Common.{◌≡◌, ◌+◌, ◌++◌, IsUtf8, length}
use Rattle.rql_tokens.specs.Tokens.{tokens_of, tokens_from}
use Rattle.rql_tokens.proofs.reading.tokenise.Given as goal

abbrev pub invariant-loop-byte : goal.invariant-loop-byte
invariant-loop-byte l = record {
  read : tokens_of l.text ≡ l.tokens.items ++ tokens_from l.at 0 l.rest;
  fits : l.at + length l.rest ≡ length l.text;
  utf8 : IsUtf8 l.rest;
}

abbrev pub decreases-loop-byte : goal.decreases-loop-byte
decreases-loop-byte l = length l.rest
