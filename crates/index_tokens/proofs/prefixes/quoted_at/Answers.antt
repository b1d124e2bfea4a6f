use Rattle.std.proofs.Common.{IsUtf8, subst, arith}
use Rattle.exact_tokens.proofs.Seams.{behind_ascii}
use Rattle.index_tokens.proofs.prefixes.quoted_at.Goals as goal

pub quoted-requires-clause-utf8 : goal.quoted-requires-clause-utf8
quoted-requires-clause-utf8 c = behind_ascii 34 c.args.behind.now (omega arith) (subst IsUtf8 c.requires.quote c.requires.utf8)
