-- Marks of one byte and of two.
use Rattle.std.specs.Prelude.{ℕ, List, [], ◌∷◌, Option, None}

module _ {T : Type 0} (single : ℕ → Option T) (double : ℕ → ℕ → Option T) where
  -- the mark that the bytes spell, all of them together
  abbrev pub mark_of : List ℕ → Option T
  mark_of (a ∷ []) = single a
  mark_of (a ∷ b ∷ []) = double a b
  mark_of _ = None
