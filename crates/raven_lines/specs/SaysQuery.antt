-- What the text of a query says.
use Rattle.std.specs.Prelude.{◌≡◌, ℕ, List, Result, Ok, Err}
use Rattle.spec_query.specs.Query.{Query}
use Rattle.spec_query.specs.Refusals as is
use Rattle.rql_grammar.specs.declared.kind.RqlKind.{RqlKind}
use Rattle.rql_grammar.specs.Kinds.{query_refusal}
use Rattle.rql_parser.specs.Parse.{IsParsed}
use Rattle.rql_parser.specs.declared.refusal.RqlRefusal.TheVariants.{At}

-- the text is refused for this cause
pub record SaysNoQuery (text : List ℕ) (refusal : is.QueryRefusal) : Type 0 where
  pub at : ℕ
  pub kind : RqlKind
  pub given : IsParsed text (Err (At at kind))
  pub seen : refusal ≡ query_refusal at kind

-- the query that the text says by the grammar, or the cause for which it says none
abbrev pub SaysQuery : List ℕ → Result Query is.QueryRefusal → Type 0
SaysQuery text (Ok q) = IsParsed text (Ok q)
SaysQuery text (Err refusal) = SaysNoQuery text refusal
