-- What the arguments of a line and its numbers are.
use Rattle.std.specs.Prelude.{◌≡◌, ℕ, zero, suc, ◌<◌, ◌≤◌, ◌^◌, List, [], ◌∷◌, ◌++◌, false, length}
use Rattle.std.specs.Fmt.{decimal}
use Rattle.spec_server.specs.Words.{has_byte}

-- the text is a word without a space, one space, and the rest, both with a byte
pub record IsSplit (text word rest : List ℕ) : Type 0 where
  pub parts : text ≡ word ++ 32 ∷ rest
  pub spaceless : has_byte 32 word ≡ false
  pub word_has_bytes : 0 < length word
  pub rest_has_bytes : 0 < length rest

abbrev pub zeros : ℕ → List ℕ
zeros zero = []
zeros (suc more) = 48 ∷ zeros more

-- the text is the number in decimal, perhaps with zeros before it, in at most 16 bytes
pub record IsNumber (text : List ℕ) (n : ℕ) : Type 0 where
  pub leading : ℕ
  pub digits : text ≡ zeros leading ++ decimal n
  pub short : length text ≤ 16
  pub below : n < 10 ^ 16
