use Rattle.std.proofs.Common.{IsUtf8, drop, subst, sym}
use Rattle.exact_tokens.proofs.RunLemmas.{behind_name}
use Rattle.exact_tokens.proofs.Seams.{before_text}
use Rattle.exact_tokens.proofs.classes.word.Goals as goal

pub string_of-requires : goal.string_of-requires
string_of-requires c =
    let rest = subst (λ n. IsUtf8 (drop n c.args.bytes.now)) (sym c.name_len-len.ensures.len) (behind_name c.args.bytes.now c.requires) in
    subst IsUtf8 (sym c.in_ok-word.ensures.items) (before_text c.args.bytes.now c.name_len-len.result c.requires c.name_len-len.ensures.fits rest)

pub returns-clause-rest : goal.returns-clause-rest
returns-clause-rest c = subst (λ n. IsUtf8 (drop n c.args.bytes.now)) (sym c.name_len-len.ensures.len) (behind_name c.args.bytes.now c.requires)
