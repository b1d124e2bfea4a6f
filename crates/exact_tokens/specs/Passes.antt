-- What the passes over the bytes of one token find.
use Rattle.std.specs.Prelude.{ℕ, ◌+◌, List, [], ◌∷◌, ◌++◌, Bool, ◌==◌, if◌then◌else◌, Option, Some, None, option_and_then}
use Rattle.exact_tokens.specs.Texts.{is_raw, meant_by}
use Rattle.exact_tokens.specs.Tokens.{or_shorter}

-- how many bytes come first that pass a test
abbrev pub run : (ℕ → Bool) → List ℕ → ℕ
run test [] = 0
run test (b ∷ bs) = if test b then run test bs + 1 else 0

-- of a text in such quotes
module _ (quote : ℕ) (escapes : List (ℕ × ℕ)) where
  -- Goes on after an opening quote and a part of the value and so many bytes: the value, and the count of bytes up to the closing quote.
  abbrev pub text_from : List ℕ → ℕ → List ℕ → Option (List ℕ × ℕ)
  text_from value n [] = None
  text_from value n (b ∷ []) = if b == quote then Some (value, n + 1) else None
  text_from value n (b ∷ c ∷ bs) =
      if b == quote then Some (value, n + 1) else (
      if b == 92 then option_and_then (λ x. text_from (value ++ x ∷ []) (n + 2) bs) (meant_by escapes c) else (
      if is_raw quote b then text_from (value ++ b ∷ []) (n + 1) (c ∷ bs) else None))

-- of marks
module _ {T : Type 0} (single : ℕ → Option T) (double : ℕ → ℕ → Option T) where
  -- the longest mark that the bytes begin with, and how many of them spell it
  abbrev pub mark_at : List ℕ → Option (T × ℕ)
  mark_at [] = None
  mark_at (a ∷ []) = or_shorter 1 (single a) None
  mark_at (a ∷ b ∷ bs) = or_shorter 2 (double a b) (or_shorter 1 (single a) None)
