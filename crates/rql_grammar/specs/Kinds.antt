-- Why a text is no query, as replies say it.
use Rattle.std.specs.Prelude.{ℕ}
use Rattle.spec_query.specs.Refusals as is
use Rattle.rql_grammar.specs.declared.kind.RqlKind.{RqlKind}
use Rattle.rql_grammar.specs.declared.kind.RqlKind.TheVariants as kind

abbrev pub kind_view : RqlKind → is.QueryKind
kind_view kind.TooLarge = is.TooLarge
kind_view kind.ClauseOrder = is.ClauseOrder
kind_view kind.BadNumber = is.BadNumber
kind_view kind.Unexpected = is.Unexpected

abbrev pub query_refusal : ℕ → RqlKind → is.QueryRefusal
query_refusal at kind = record { at = at; kind = kind_view kind }
