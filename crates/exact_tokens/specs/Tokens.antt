-- The tokens of a text, each the longest that the bytes allow.
use Rattle.std.specs.Prelude.{◌≡◌, ◌<◌, ◌≤◌, ℕ, zero, suc, ◌+◌, ◌-◌, Bool, true, false, List, [], ◌∷◌, if◌then◌else◌, Option, Some, None, length, take, drop}
use Rattle.exact_tokens.specs.Bytes.{is_blank}

abbrev pub where_true : {T : Type 0} → Bool → T → Option T
where_true holds token = if holds then Some token else None

abbrev pub or_shorter : {T : Type 0} → ℕ → Option T → Option (T × ℕ) → Option (T × ℕ)
or_shorter n (Some x) shorter = Some (x, n)
or_shorter n None shorter = shorter

abbrev pub or_all : {T : Type 0} → T → List ℕ → Option (T × ℕ) → T × ℕ
or_all bad s (Some found) = found
or_all bad s None = (bad, length s)

-- Of a language: which token bytes spell, all of them together.
module _ {T : Type 0} (spelled_by : List ℕ → Option T) where
  -- The longest prefix that spells a token, of all those of at most so many bytes: that token, and how many bytes spell it.
  abbrev pub longest : ℕ → List ℕ → Option (T × ℕ)
  longest zero s = None
  longest (suc n) s = or_shorter (suc n) (spelled_by (take (suc n) s)) (longest n s)

  -- no prefix of more than so many bytes spells a token
  abbrev pub NoneLonger : ℕ → List ℕ → Type 0
  NoneLonger n s = (m : ℕ) → n < m → m ≤ length s → spelled_by (take m s) ≡ None

-- And which token stands for bytes that begin with none.
module _ {T : Type 0} (spelled_by : List ℕ → Option T) (bad_token : T) where
  -- The token that bytes begin with, the longest that they allow. If they begin with none, all of them are a bad one.
  abbrev pub first_token : List ℕ → T × ℕ
  first_token s = or_all bad_token s (longest spelled_by (length s) s)

  -- Which token bytes begin with, and how many bytes it takes: the longest prefix that spells one, or all that is left, if no prefix does.
  pub data IsFirst : List ℕ → T → ℕ → Type 0 where
    spelled : {s : List ℕ} {x : T} {n : ℕ} → n ≤ length s → spelled_by (take n s) ≡ Some x → NoneLonger spelled_by n s → IsFirst s x n
    bad : {s : List ℕ} {n : ℕ} → NoneLonger spelled_by 0 s → n ≡ length s → IsFirst s bad_token n

  -- And of the tokens with their places: what a token at a place is, before these bytes, and the last token of each text.
  module _ {P : Type 0} (placed : ℕ → T → List ℕ → P) (last : T) where
    -- The tokens from a place on, if so many bytes still belong to the token before. Blanks part tokens, and the end is the last one.
    abbrev pub tokens_from : (place inside : ℕ) → List ℕ → List P
    tokens_from place inside [] = placed place last [] ∷ []
    tokens_from place (suc inside) (b ∷ bs) = tokens_from (place + 1) inside bs
    tokens_from place zero (b ∷ bs) =
        if is_blank b then tokens_from (place + 1) 0 bs
        else placed place (first_token (b ∷ bs)).0 (drop (first_token (b ∷ bs)).1 (b ∷ bs)) ∷ tokens_from (place + 1) ((first_token (b ∷ bs)).1 - 1) bs

    -- Which list holds the tokens of the bytes from a place on: the same as a relation.
    pub data AreTokens : ℕ → List ℕ → List P → Type 0 where
      ends : {place : ℕ} → AreTokens place [] (placed place last [] ∷ [])
      blank : {place b : ℕ} {s : List ℕ} {xs : List P} → is_blank b ≡ true → AreTokens (place + 1) s xs → AreTokens place (b ∷ s) xs
      token : {place b n : ℕ} {s : List ℕ} {x : T} {xs : List P} →
          is_blank b ≡ false → IsFirst (b ∷ s) x n → AreTokens (place + n) (drop n (b ∷ s)) xs → AreTokens place (b ∷ s) (placed place x (drop n (b ∷ s)) ∷ xs)
