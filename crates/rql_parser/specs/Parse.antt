-- What the text of a query is answered.
use Rattle.std.specs.Prelude.{◌≡◌, ℕ, nat_lt, Bool, true, false, List, [], ◌∷◌, length, if◌then◌else◌, Result, Ok, Err, ◌⊎◌}
use Rattle.exact_parse.specs.Exact.{SpellsText, UnexpectedAt, TooLargeAt}
use Rattle.spec_query.specs.Query.{Query}
use Rattle.rql_tokens.specs.Tokens.{tokens_of}
use Rattle.rql_tokens.specs.Words.{Tokens, place_of, is_at_bad_number}
use Rattle.rql_grammar.specs.declared.kind.RqlKind.{RqlKind}
use Rattle.rql_grammar.specs.declared.kind.RqlKind.TheVariants as kind
use Rattle.rql_grammar.specs.Limits.{limit}
use Rattle.rql_grammar.specs.Queries.{SpellsQuery}
use Rattle.rql_parser.specs.declared.refusal.RqlRefusal.{RqlRefusal}
use Rattle.rql_parser.specs.declared.refusal.RqlRefusal.TheVariants.{At, NoMemory}
use Rattle.rql_parser.specs.declared.stop.Stop.{Stop}
use Rattle.rql_parser.specs.declared.stop.Stop.TheVariants as stop

-- ---- refusals

-- The tokens `ts` are refused at the first of `p` for this cause: it is past a limit of that kind, which none before it is; or no query goes on with it,
-- though one goes on with those before it, of which none is past a limit. Then it is reported as a bad number, if it is one.
abbrev pub RefusedAt : RqlKind → Tokens → Tokens → Type 0
RefusedAt kind.TooLarge ts p = TooLargeAt SpellsQuery limit kind.TooLarge ts p
RefusedAt kind.ClauseOrder ts p = TooLargeAt SpellsQuery limit kind.ClauseOrder ts p
RefusedAt kind.BadNumber ts p = UnexpectedAt SpellsQuery limit ts p × (is_at_bad_number p ≡ true)
RefusedAt kind.Unexpected ts p = (UnexpectedAt SpellsQuery limit ts p × (is_at_bad_number p ≡ false)) ⊎ TooLargeAt SpellsQuery limit kind.Unexpected ts p

-- what a stop at the first of these tokens refuses
abbrev pub refusal_at : Stop → Tokens → RqlRefusal
refusal_at stop.NoMemory s = NoMemory
refusal_at stop.Unexpected s = At (place_of s) (if is_at_bad_number s then kind.BadNumber else kind.Unexpected)
refusal_at stop.TooLarge s = At (place_of s) kind.TooLarge
refusal_at stop.ClauseOrder s = At (place_of s) kind.ClauseOrder
refusal_at stop.NoPart s = At (place_of s) kind.Unexpected

-- ---- answers

-- the query that the tokens spell, or their refused token
abbrev pub IsOf : Tokens → Result Query RqlRefusal → Type 0
IsOf ts (Ok q) = SpellsText SpellsQuery limit ts q
IsOf ts (Err (At place kind)) = (p : Tokens) × RefusedAt kind ts p × (place ≡ place_of p)
IsOf ts (Err NoMemory) = ⊥

abbrev pub most_bytes : ℕ
most_bytes = 65536

-- a text that is too long is refused behind the bytes that it may have
abbrev pub IsOfLength : Bool → List ℕ → Result Query RqlRefusal → Type 0
IsOfLength true text answer = answer ≡ Err (At most_bytes kind.TooLarge)
IsOfLength false text answer = IsOf (tokens_of text) answer

abbrev pub IsParsed : List ℕ → Result Query RqlRefusal → Type 0
IsParsed text answer = IsOfLength (nat_lt most_bytes (length text)) text answer

-- out of memory says nothing
abbrev pub UnlessNoMemory : Result Query RqlRefusal → (Result Query RqlRefusal → Type 0) → Type 0
UnlessNoMemory (Err NoMemory) says = Unit {0}
UnlessNoMemory answer says = says answer
