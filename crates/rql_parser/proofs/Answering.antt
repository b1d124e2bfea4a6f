-- What the outcome of the reading of a whole text says, and that nothing else can be said.
use Rattle.std.proofs.Common.{◌≡◌, ℕ, Bool, true, false, cond, nat_lt, List, length, Result, Ok, Err, refl, sym, ◌∙◌, ap, inl, inr, ◌⊎◌}
use Rattle.exact_parse.specs.Steps.{Outcome, Read}
use Rattle.exact_parse.specs.Exact.{SpellsText, UnexpectedAt, TooLargeAt}
use Rattle.exact_parse.specs.Answers.{Answer, Spelled, IsUnexpected, IsTooLarge, IsAnswer, answer_of}
use Rattle.exact_parse.proofs.Exact.{read_text, unexpected_at, too_large_at, said, one_answer}
use Rattle.spec_query.specs.Query.{Query}
use Rattle.rql_tokens.specs.declared.token.Placed.{Placed}
use Rattle.rql_tokens.specs.Tokens.{tokens_of}
use Rattle.rql_tokens.specs.Words.{Tokens, place_of, is_at_bad_number}
use Rattle.rql_grammar.specs.Reads.{Kind, unexpected, large, late}
use Rattle.rql_grammar.specs.declared.kind.RqlKind.{RqlKind}
use Rattle.rql_grammar.specs.declared.kind.RqlKind.TheVariants as kind
use Rattle.rql_grammar.specs.Limits.{limit}
use Rattle.rql_grammar.specs.Queries.{SpellsQuery}
use Rattle.rql_grammar.specs.QueryReading.{query_text}
use Rattle.rql_grammar.proofs.QueryKeeps.{query_text_keeps}
use Rattle.rql_grammar.proofs.QueryMeets.{query_text_meets}
use Rattle.rql_parser.specs.declared.refusal.RqlRefusal.{RqlRefusal}
use Rattle.rql_parser.specs.declared.refusal.RqlRefusal.TheVariants.{At, NoMemory}
use Rattle.rql_parser.specs.declared.stop.Stop.{Stop}
use Rattle.rql_parser.specs.declared.stop.Stop.TheVariants as stop
use Rattle.rql_parser.specs.Gives.{Stops}
use Rattle.rql_parser.specs.Parse.{RefusedAt, refusal_at, IsOf, most_bytes, IsOfLength, IsParsed, UnlessNoMemory}

-- ---- what is answered holds

pub read_says : (ts : Tokens) (q : Query) (c : ℕ) (r : Tokens) → query_text 0 ts ≡ Read q c r → IsOf ts (Ok q)
read_says ts q c r e = read_text SpellsQuery limit query_text query_text_keeps query_text_meets ts q c r e

unexpected_says : (ts p : Tokens) (d : Bool) → is_at_bad_number p ≡ d → UnexpectedAt SpellsQuery limit ts p → RefusedAt (cond d kind.BadNumber kind.Unexpected) ts p
unexpected_says ts p true e h = (h, e)
unexpected_says ts p false e h = inl (h, e)

pub stop_says : (ts : Tokens) (k : Stop) (p : Tokens) → Stops (query_text 0 ts) k p → UnlessNoMemory (Err (refusal_at k p)) (IsOf ts)
stop_says ts stop.NoMemory p e = tt
stop_says ts stop.Unexpected p e = (p, unexpected_says ts p (is_at_bad_number p) refl (unexpected_at SpellsQuery limit query_text query_text_keeps query_text_meets unexpected ts p e), refl)
stop_says ts stop.TooLarge p e = (p, too_large_at SpellsQuery limit query_text query_text_keeps query_text_meets large ts p e, refl)
stop_says ts stop.ClauseOrder p e = (p, too_large_at SpellsQuery limit query_text query_text_keeps query_text_meets late ts p e, refl)
stop_says ts stop.NoPart p e = (p, inr (too_large_at SpellsQuery limit query_text query_text_keeps query_text_meets unexpected ts p e), refl)

-- ---- and nothing else does

-- what an answer is reported as
abbrev reported : Answer Placed Kind Query → Result Query RqlRefusal
reported (Spelled q) = Ok q
reported (IsUnexpected p) = Err (At (place_of p) (cond (is_at_bad_number p) kind.BadNumber kind.Unexpected))
reported (IsTooLarge k p) = Err (At (place_of p) k)

report : (ts : Tokens) (x : Answer Placed Kind Query) → IsAnswer SpellsQuery limit ts x → reported x ≡ reported (answer_of (query_text 0 ts))
report ts x h =
    ap reported (one_answer SpellsQuery limit query_text query_text_keeps query_text_meets ts x (answer_of (query_text 0 ts)) h (said SpellsQuery limit query_text query_text_keeps query_text_meets ts))

at_place : (place : ℕ) (k : RqlKind) (p : Tokens) (x : Result Query RqlRefusal) → place ≡ place_of p → ◌≡◌ {A = Result Query RqlRefusal} (Err (At (place_of p) k)) x → ◌≡◌ {A = Result Query RqlRefusal} (Err (At place k)) x
at_place place k p x e h = ap (λ place. Err (At place k)) e ∙ h

only_of : (ts : Tokens) (a : Result Query RqlRefusal) → IsOf ts a → a ≡ reported (answer_of (query_text 0 ts))
only_of ts (Ok q) x = report ts (Spelled q) x
only_of ts (Err NoMemory) x = absurd x
only_of ts (Err (At place kind.TooLarge)) x = at_place place kind.TooLarge x.0 _ x.2 (report ts (IsTooLarge kind.TooLarge x.0) x.1)
only_of ts (Err (At place kind.ClauseOrder)) x = at_place place kind.ClauseOrder x.0 _ x.2 (report ts (IsTooLarge kind.ClauseOrder x.0) x.1)
only_of ts (Err (At place kind.BadNumber)) x =
    at_place place kind.BadNumber x.0 _ x.2 (ap (λ d. Err (At (place_of x.0) (cond d kind.BadNumber kind.Unexpected))) (sym (x.1).1) ∙ report ts (IsUnexpected x.0) (x.1).0)
only_of ts (Err (At place kind.Unexpected)) x = at_place place kind.Unexpected x.0 _ x.2 (by x.1)
  where
    by : RefusedAt kind.Unexpected ts x.0 → ◌≡◌ {A = Result Query RqlRefusal} (Err (At (place_of x.0) kind.Unexpected)) (reported (answer_of (query_text 0 ts)))
    by (inl h) = ap (λ d. Err (At (place_of x.0) (cond d kind.BadNumber kind.Unexpected))) (sym h.1) ∙ report ts (IsUnexpected x.0) h.0
    by (inr h) = report ts (IsTooLarge kind.Unexpected x.0) h

-- a text has one answer
pub one_of : (text : List ℕ) (a b : Result Query RqlRefusal) → IsParsed text a → IsParsed text b → a ≡ b
one_of text a b = by (nat_lt most_bytes (length text))
  where
    by : (d : Bool) → IsOfLength d text a → IsOfLength d text b → a ≡ b
    by true x y = x ∙ sym y
    by false x y = only_of (tokens_of text) a x ∙ sym (only_of (tokens_of text) b y)
