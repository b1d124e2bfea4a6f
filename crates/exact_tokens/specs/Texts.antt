-- Texts in quotes.
use Rattle.std.specs.Prelude.{ℕ, List, [], ◌∷◌, Bool, true, not, ◌==◌, ◌&&◌, nat_le, nat_lt, if◌then◌else◌, Option, Some, None, option_map, option_and_then}

-- what means itself: no control character, no backslash, nor the quote that the text stands in
abbrev pub is_raw : ℕ → ℕ → Bool
is_raw quote b = nat_le 32 b && (not (b == 127) && (not (b == quote) && not (b == 92)))

-- What a backslash and the byte after it mean, by a table of such bytes and what each means.
abbrev pub meant_by : List (ℕ × ℕ) → ℕ → Option ℕ
meant_by [] letter = None
meant_by (escape ∷ escapes) letter = if letter == escape.0 then Some escape.1 else meant_by escapes letter

-- all bytes of a table are ASCII
abbrev pub are_ascii : List (ℕ × ℕ) → Bool
are_ascii [] = true
are_ascii (escape ∷ escapes) = (nat_lt escape.0 128 && nat_lt escape.1 128) && are_ascii escapes

module _ (quote : ℕ) (escapes : List (ℕ × ℕ)) where
  -- The value of a text, by what follows its opening quote: what means itself, or escapes, and the closing quote at the end. There is none for other
  -- bytes.
  abbrev pub value_of : List ℕ → Option (List ℕ)
  value_of [] = None
  value_of (b ∷ []) = if b == quote then Some [] else None
  value_of (b ∷ c ∷ bs) =
      if b == 92 then option_and_then (λ x. option_map (λ v. x ∷ v) (value_of bs)) (meant_by escapes c) else (
      if is_raw quote b then option_map (λ v. b ∷ v) (value_of (c ∷ bs)) else None)
