-- Where the ids of one value are among those of a field.
use Rattle.std.specs.Prelude.{◌≡◌, ℕ, zero, suc, ◌<◌, ◌≤◌, List, [], ◌∷◌, take, Bool, true, false, Some}
use Rattle.std.specs.Ordering.{is_le}
use Rattle.spec_data.specs.Scalars.{Scalar}
use Rattle.term_index.specs.Marks.{Mark, mark_cmp, before, after}

-- the first `n` pass, and none of the others does
abbrev pub IsCut : {X : Type 0} → (X → Bool) → ℕ → List X → Type 0
IsCut p n [] = Unit {0}
IsCut p zero (x ∷ xs) = (p x ≡ false) × IsCut p zero xs
IsCut p (suc n) (x ∷ xs) = (p x ≡ true) × IsCut p n xs

-- where an id with its value is
abbrev pub place_of : List ℕ × Scalar → Mark
place_of e = record { value = Some e.1; side = 1; id = e.0 }

abbrev pub is_upto : Mark → List ℕ × Scalar → Bool
is_upto m e = is_le (mark_cmp (place_of e) m)

-- of the first `end`, those with the value of the one at a place are from `first` on, up to before `past`
pub record IsRunAt (all : List (List ℕ × Scalar)) (end at first past : ℕ) : Type 0 where
  pub value : Scalar
  pub low : IsCut (is_upto (before value)) first (take end all)
  pub high : IsCut (is_upto (after value)) past (take end all)
  pub from : first ≤ at
  pub upto : at < past
  pub within : past ≤ end
