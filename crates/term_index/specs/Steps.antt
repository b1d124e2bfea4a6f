-- Where the answer of a condition changes along the terms of a field.
use Rattle.std.specs.Prelude.{◌≡◌, ℕ, suc, ◌<◌, ◌≤◌, nat_eq, List, Bool, true, false, Some, slice_get}
use Rattle.std.specs.List.{list_any}
use Rattle.spec_data.specs.Scalars.{Scalar}
use Rattle.raven_value.specs.ScalarView.{scalar_view}
use Rattle.term_index.specs.Held.{Pairs}
use Rattle.term_index.specs.declared.key.Key.TheVariants as k
use Rattle.term_index.specs.declared.key.Term.{Term}

abbrev pub is_place : ℕ → List ℕ → Bool
is_place n places = list_any (nat_eq n) places

-- these places and perhaps more
abbrev pub AreAmong : List ℕ → List ℕ → Type 0
AreAmong places more = (n : ℕ) → is_place n places ≡ true → is_place n more ≡ true

-- none is past the end of a list that is so long
abbrev pub AreWithin : ℕ → List ℕ → Type 0
AreWithin len places = (n : ℕ) → is_place n places ≡ true → n ≤ len

abbrev pub HaveOneAnswer : (Scalar → Bool) → Scalar → Scalar → Type 0
HaveOneAnswer meets v w = meets v ≡ meets w

-- the values of two neighbours are alike, unless the second is at one of the places
abbrev pub StepsAt : List ℕ → (Scalar → Scalar → Type 0) → Pairs → Type 0
StepsAt places Same es = (i : ℕ) (t u : Term) → slice_get es i ≡ Some (k.At t, tt) → slice_get es (suc i) ≡ Some (k.At u, tt) → is_place (suc i) places ≡ false → Same (scalar_view t.value) (scalar_view u.value)

-- from one place on, those before the other meet the condition, and the rest does not
abbrev pub AreFromTo : (Scalar → Bool) → ℕ → ℕ → Pairs → Type 0
AreFromTo meets start end es = (i : ℕ) (t : Term) → slice_get es i ≡ Some (k.At t, tt) → start ≤ i → (meets (scalar_view t.value) ≡ true → i < end) × (meets (scalar_view t.value) ≡ false → end ≤ i)

-- all terms from one place up to another meet the condition, or none does
abbrev pub IsOneRun : (Scalar → Bool) → ℕ → ℕ → Pairs → Type 0
IsOneRun meets from to es = (i : ℕ) (t u : Term) → slice_get es i ≡ Some (k.At t, tt) → slice_get es (suc i) ≡ Some (k.At u, tt) → from ≤ i → suc i < to → meets (scalar_view t.value) ≡ meets (scalar_view u.value)

-- all terms from one place up to another have this answer
abbrev pub AllAnswer : (Scalar → Bool) → Bool → ℕ → ℕ → Pairs → Type 0
AllAnswer meets answer from to es = (i : ℕ) (t : Term) → slice_get es i ≡ Some (k.At t, tt) → from ≤ i → i < to → meets (scalar_view t.value) ≡ answer

-- of the terms before a place, those that meet the condition are from one place up to another
pub record IsRunTo (meets : Scalar → Bool) (es : Pairs) (start end place : ℕ) : Type 0 where
  pub order : start ≤ end
  pub within : end ≤ place
  pub before : AllAnswer meets false 0 start es
  pub inside : AllAnswer meets true start end es
  pub past : AllAnswer meets false end place es
