use Rattle.std.proofs.Common.{IsUtf8, subst}
use Rattle.exact_tokens.proofs.Seams.{behind_ascii}
use Rattle.rql_tokens.proofs.QuoteLemmas.{quote_ascii}
use Rattle.rql_tokens.proofs.prefixes.quoted_at.Goals as goal

pub quoted-requires-clause-utf8 : goal.quoted-requires-clause-utf8
quoted-requires-clause-utf8 c = behind_ascii c.args.quote c.args.behind.now (quote_ascii c.args.quote c.requires.a_quote) (subst IsUtf8 c.requires.first c.requires.utf8)
