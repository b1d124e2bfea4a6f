use Rattle.std.proofs.Common.{IsUtf8, drop, subst, sym}
use Rattle.rql_tokens.proofs.RunLemmas.{behind_number}
use Rattle.rql_tokens.proofs.prefixes.number_at.Goals as goal

pub returns-clause-rest : goal.returns-clause-rest
returns-clause-rest c = subst (λ n. IsUtf8 (drop n c.args.bytes.now)) (sym c.number_len-len.ensures.len) (behind_number c.args.bytes.now c.requires)
