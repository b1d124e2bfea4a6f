-- The ends of lines.
use Rattle.std.specs.Prelude.{◌≡◌, ◌≢◌, ◌<◌, length, slice_index, ℕ, List, [], ◌∷◌, ◌==◌, if◌then◌else◌}

-- without the CR at its end
abbrev pub without_cr : List ℕ → List ℕ
without_cr [] = []
without_cr (b ∷ []) = if b == 13 then [] else b ∷ []
without_cr (b ∷ c ∷ bs) = b ∷ without_cr (c ∷ bs)

-- the first LF is at n
pub record IsFirstEnd (bytes : List ℕ) (n : ℕ) : Type 0 where
  pub within : n < length bytes
  pub here : slice_index bytes n ≡ 10
  pub before : (k : ℕ) → k < n → slice_index bytes k ≢ 10
