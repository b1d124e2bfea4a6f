use Rattle.std.proofs.Common.{◌≡◌, drop}
use Rattle.rql_tokens.specs.Tokens.{opens}
use Rattle.rql_tokens.proofs.classes.opens.Given as goal

abbrev pub invariant-loop-byte : goal.invariant-loop-byte
invariant-loop-byte l = opens (drop l.byte-index l.bytes) ≡ opens l.bytes
