-- What the terms of a field say: which id has which value.
use Rattle.std.specs.Prelude.{◌≡◌, ℕ, List, [], ◌∷◌, length, Bool, false, if◌then◌else◌, Option, Some, None}
use Rattle.std.specs.FinMap.{FinMap, insert, remove, find}
use Rattle.std.specs.Option.{option_map_or}
use Rattle.spec_data.specs.Folding.{folded, key_cmp}
use Rattle.spec_data.specs.Scalars.{Scalar, Test, holds}
use Rattle.raven_value.specs.ScalarView.{scalar_view}
use Rattle.reference_track.specs.Sets.{is_id, is_one_of, AreInOrder}
use Rattle.term_index.specs.declared.key.Key.{Key}
use Rattle.term_index.specs.declared.key.Key.TheVariants as k

-- the values of a field by folded ids
abbrev pub Values : Type 0
Values = FinMap key_cmp Scalar

-- with this value at a folded id, or with none
abbrev pub set_value : List ℕ → Option Scalar → Values → Values
set_value q None m = remove m q
set_value q (Some v) m = insert m q v

-- the value meets the test; an id that has no value in a field meets no test on it
abbrev pub passes : Test → Bool → Option Scalar → Bool
passes test exact value = option_map_or (holds test exact) value false

abbrev pub Pairs : Type 0
Pairs = List (Key × Unit {0})

abbrev pub onto : Key → List (List ℕ × Scalar) → List (List ℕ × Scalar)
onto (k.At t) rest = (folded t.id, scalar_view t.value) ∷ rest
onto edge rest = rest

-- the folded ids and their values, in the order of the terms
abbrev pub held : Pairs → List (List ℕ × Scalar)
held [] = []
held (e ∷ es) = onto e.0 (held es)

-- each id is there once
abbrev pub AreApart : List (List ℕ × Scalar) → Type 0
AreApart [] = Unit {0}
AreApart (e ∷ es) = (find key_cmp e.0 es ≡ None) × AreApart es

abbrev pub chosen_onto : (Scalar → Bool) → Key → List (List ℕ) → List (List ℕ)
chosen_onto meets (k.At t) rest = if meets (scalar_view t.value) then t.id ∷ rest else rest
chosen_onto meets edge rest = rest

-- the ids of the terms whose values meet a condition, in the order of the terms
abbrev pub chosen : (Scalar → Bool) → Pairs → List (List ℕ)
chosen meets [] = []
chosen meets (e ∷ es) = chosen_onto meets e.0 (chosen meets es)

abbrev pub passing_onto : Test → Bool → Key → List (List ℕ) → List (List ℕ)
passing_onto test exact = chosen_onto (holds test exact)

-- those whose values meet a test
abbrev pub passing : Test → Bool → Pairs → List (List ℕ)
passing test exact = chosen (holds test exact)

-- the first of the ids is this one
abbrev pub is_first : List ℕ → List (List ℕ) → Bool
is_first x [] = false
is_first x (y ∷ ys) = is_id x y

abbrev pub IsTerm : Key → Type 0
IsTerm (k.At t) = Unit {0}
IsTerm edge = ⊥

-- no key is an edge
abbrev pub AreTerms : Pairs → Type 0
AreTerms [] = Unit {0}
AreTerms (e ∷ es) = IsTerm e.0 × AreTerms es

-- so many ids pass: as many as a list in order has that has these ids and no others
pub record IsCountOf (passes : List ℕ → Bool) (n : ℕ) : Type 0 where
  pub ids : List (List ℕ)
  pub order : AreInOrder ids
  pub members : (q : List ℕ) → is_one_of q ids ≡ passes q
  pub count : length ids ≡ n
