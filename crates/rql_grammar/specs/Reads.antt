-- What reads the tokens of a query.
use Rattle.exact_parse.specs.Steps.{Reader}
use Rattle.rql_tokens.specs.declared.token.Placed.{Placed}
use Rattle.rql_grammar.specs.declared.kind.RqlKind.{RqlKind}
use Rattle.rql_grammar.specs.declared.kind.RqlKind.TheVariants as kind

-- The kinds of limits are those of refusals: a text that is no part of a path is past a limit that is reported as `Unexpected`.
abbrev pub Kind : Type 0
Kind = RqlKind

abbrev pub Reads : Type 0 → Type 0
Reads A = Reader Placed Kind A

-- of a token with which nothing goes on
abbrev pub unexpected : Kind
unexpected = kind.Unexpected

-- of a token for which there is no room
abbrev pub large : Kind
large = kind.TooLarge

-- of a clause that comes too late
abbrev pub late : Kind
late = kind.ClauseOrder
