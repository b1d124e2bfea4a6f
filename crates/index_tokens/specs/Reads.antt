-- What reads the tokens of a text.
use Rattle.exact_parse.specs.Steps.{Reader}
use Rattle.index_tokens.specs.declared.token.Placed.{Placed}

-- of refusals for either cause there is but one kind
abbrev pub Kind : Type 0
Kind = Unit {0}

abbrev pub Reads : Type 0 → Type 0
Reads A = Reader Placed Kind A
