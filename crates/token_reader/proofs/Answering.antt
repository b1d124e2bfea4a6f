-- What the outcome of the reading of a whole text says, and that nothing else holds.
use Rattle.std.proofs.Common.{◌≡◌, ◌≢◌, ℕ, Result, Ok, Err, refl, sym, ◌∙◌, ap, inl, inr}
use Rattle.exact_parse.specs.Steps.{Unexpected, TooLarge, Outcome, Read, Refused, Reader}
use Rattle.exact_parse.specs.Limits.{Verdict}
use Rattle.exact_parse.specs.Keeps.{Keeps}
use Rattle.exact_parse.specs.Exact.{Meets}
use Rattle.exact_parse.proofs.Exact.{read_text, text_read, unexpected_at, unexpected_only, too_large_at, too_large_only}
use Rattle.index_tokens.specs.declared.token.Placed.{Placed}
use Rattle.index_tokens.specs.Reads.{Kind}
use Rattle.index_tokens.specs.Words.{Tokens, place_of}
use Rattle.token_reader.specs.declared.refusal.Refusal.{Refusal}
use Rattle.token_reader.specs.declared.refusal.Refusal.TheVariants as refusal
use Rattle.token_reader.specs.declared.stop.Stop.{Stop}
use Rattle.token_reader.specs.declared.stop.Stop.TheVariants as stop
use Rattle.token_reader.specs.Gives.{Stops}
use Rattle.token_reader.specs.Answers.{Says, SaysOnly, refusal_at}

-- the answer of an outcome
abbrev pub answer : {A : Type 0} → Outcome Placed Kind A → Result A Refusal
answer (Read a c r) = Ok a
answer (Refused (Unexpected k) p) = Err (refusal.Unexpected (place_of p))
answer (Refused (TooLarge k) p) = Err (refusal.TooLarge (place_of p))

module _ {A : Type 0} (X : Tokens → A → Tokens → Type 0) (limit : (s : Tokens) (a : A) (r : Tokens) → X s a r → Verdict Placed Kind) (f : Reader Placed Kind A) (keeps : Keeps X f)
    (meets : (s r : Tokens) (a : A) (x : X s a r) → Meets (limit s a r x) a r (f 0 s)) where
  said_only : (ts : Tokens) (said : Result A Refusal) → said ≢ Err refusal.NoMemory → Says X limit ts said → answer (f 0 ts) ≡ said
  said_only ts (Ok a) n x = ap answer ((text_read X limit f keeps meets ts a x).2)
  said_only ts (Err refusal.NoMemory) n x = absurd (n refl)
  said_only ts (Err (refusal.Unexpected place)) n x = ap answer ((unexpected_only X limit f keeps meets ts x.0 x.1).1) ∙ ap (λ at. Err (refusal.Unexpected at)) (sym x.2)
  said_only ts (Err (refusal.TooLarge place)) n x = ap answer (too_large_only X limit f keeps meets tt ts x.0 x.1) ∙ ap (λ at. Err (refusal.TooLarge at)) (sym x.2)

  -- what a tree says
  pub read_says : (ts : Tokens) (a : A) (c : ℕ) (r : Tokens) → f 0 ts ≡ Read a c r → Says X limit ts (Ok a)
  read_says ts a c r e = read_text X limit f keeps meets ts a c r e

  pub read_only : (ts : Tokens) (a : A) (c : ℕ) (r : Tokens) → f 0 ts ≡ Read a c r → SaysOnly X limit ts (Ok a)
  read_only ts a c r e said n x = inr (sym (ap answer e) ∙ said_only ts said n x)

  -- what a stop at a token says
  pub stop_says : (ts : Tokens) (k : Stop) (p : Tokens) → Stops (f 0 ts) k p → Says X limit ts (Err (refusal_at k p))
  stop_says ts stop.NoMemory p e = tt
  stop_says ts stop.Unexpected p e = (p, unexpected_at X limit f keeps meets tt ts p e, refl)
  stop_says ts stop.TooLarge p e = (p, too_large_at X limit f keeps meets tt ts p e, refl)

  pub stop_only : (ts : Tokens) (k : Stop) (p : Tokens) → Stops (f 0 ts) k p → SaysOnly X limit ts (Err (refusal_at k p))
  stop_only ts stop.NoMemory p e said n x = inl refl
  stop_only ts stop.Unexpected p e said n x = inr (sym (ap answer e) ∙ said_only ts said n x)
  stop_only ts stop.TooLarge p e said n x = inr (sym (ap answer e) ∙ said_only ts said n x)
