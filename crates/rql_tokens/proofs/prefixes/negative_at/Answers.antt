use Rattle.std.proofs.Common.{IsUtf8, drop, subst, sym}
use Rattle.rql_tokens.proofs.RunLemmas.{behind_number, behind_minus}
use Rattle.rql_tokens.proofs.prefixes.negative_at.Goals as goal

pub returns-clause-rest : goal.returns-clause-rest
returns-clause-rest c =
    let rest : IsUtf8 c.args.behind.now → IsUtf8 (drop c.number_len-len.result c.args.behind.now) = λ u. subst (λ n. IsUtf8 (drop n c.args.behind.now)) (sym c.number_len-len.ensures.len) (behind_number c.args.behind.now u) in
    behind_minus c.args.bytes.now c.args.behind.now c.number_len-len.result c.requires.minus rest c.requires.utf8
