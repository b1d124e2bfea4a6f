use Rattle.std.proofs.Common.{◌≡◌, drop}
use Rattle.exact_tokens.specs.Texts.{meant_by}
use Rattle.exact_tokens.proofs.texts.meant_by.Given as goal

abbrev pub invariant-loop-escape : goal.invariant-loop-escape
invariant-loop-escape l = meant_by (drop l.escape-index l.escapes) l.letter ≡ meant_by l.escapes l.letter
