use Rattle.std.proofs.Common.{IsUtf8, drop, subst, sym}
use Rattle.index_tokens.proofs.RunLemmas.{behind_digits}
use Rattle.index_tokens.proofs.prefixes.number_at.Goals as goal

pub returns-clause-rest : goal.returns-clause-rest
returns-clause-rest c = subst (λ n. IsUtf8 (drop n c.args.bytes.now)) (sym c.digits_len-len.ensures.len) (behind_digits c.args.bytes.now c.requires)
