-- Entries are known by what they have under each name.
use Rattle.std.proofs.Common.{◌≡◌, ℕ, List, [], ◌∷◌, Bool, true, false, Option, Some, None, Ordering, Less, Equal, Greater, refl, sym, ap, ◌∙◌, subst}
use Rattle.std.specs.Prelude.{if◌then◌else◌}
use Rattle.std.proofs.lemmas.Cmp.{nat_list_cmp_total}
use Rattle.std.proofs.lemmas.Slice.Eq.{bytes_eq-Decides}
use Rattle.std.specs.FinMap.{nat_cmp-IsAntisymmetric, slice_cmp-IsAntisymmetric}
use Rattle.std.specs.Ordering.{ordering_reverse}
use Rattle.std.specs.Str.{bytes_eq}
use Rattle.spec_data.specs.Folding.{key_cmp}
use Rattle.spec_data.specs.Rising.{IsBelowAll, IsRising}
use Rattle.spec_data.specs.Scalars.{Scalar}
use Rattle.spec_data.proofs.MemberLemmas.{below_by}
use Rattle.index_tree.specs.Meaning.{Fields, field_named}

abbrev Field : Type 0
Field = List ℕ × Scalar

abbrev Rises : Fields → Type 0
Rises fields = IsRising fields

abbrev AreAlike : Fields → Fields → Type 0
AreAlike a b = (name : List ℕ) → field_named name a ≡ field_named name b

abbrev named_from : List ℕ → Field → Fields → Bool → Option Scalar
named_from name f fields b = if b then Some f.1 else field_named name fields

-- NAMES

ties : (j k : List ℕ) → key_cmp j k ≡ Equal → j ≡ k
ties = slice_cmp-IsAntisymmetric nat_cmp-IsAntisymmetric

turned : (j k : List ℕ) → key_cmp j k ≡ Greater → key_cmp k j ≡ Less
turned j k e = nat_list_cmp_total.antisymm k j ∙ ap ordering_reverse e

not_below_itself : (k : List ℕ) → key_cmp k k ≡ Less → ⊥
not_below_itself k e = let both : Less ≡ Greater = sym e ∙ nat_list_cmp_total.antisymm k k ∙ ap ordering_reverse e in cc

differ : (j k : List ℕ) → key_cmp j k ≡ Less → bytes_eq j k ≡ false
differ j k e = by (bytes_eq j k) refl
  where
    by : (b : Bool) → bytes_eq j k ≡ b → b ≡ false
    by true same = absurd (not_below_itself j (subst (λ l. key_cmp j l ≡ Less) (sym ((bytes_eq-Decides j k).0 same)) e))
    by false other = refl

-- FIELDS

none_below : (k : List ℕ) (fields : Fields) → IsBelowAll k fields → field_named k fields ≡ None
none_below k [] h = refl
none_below k (f ∷ fields) h = ap (named_from k f fields) (differ k f.0 h.0) ∙ none_below k fields h.1

first_named : (f : Field) (fields : Fields) → field_named f.0 (f ∷ fields) ≡ Some f.1
first_named f fields = ap (named_from f.0 f fields) ((bytes_eq-Decides f.0 f.0).1 refl)

-- the first name of an entry is not below that of one alike
not_less : (f g : Field) (fs gs : Fields) → Rises (g ∷ gs) → AreAlike (f ∷ fs) (g ∷ gs) → key_cmp f.0 g.0 ≡ Less → ⊥
not_less f g fs gs s h e =
    let both : Some f.1 ≡ None = sym (first_named f fs) ∙ h f.0 ∙ none_below f.0 (g ∷ gs) (e, below_by f.0 g.0 gs e s.0) in cc

same_first : (f g : Field) (fs gs : Fields) → Rises (f ∷ fs) → Rises (g ∷ gs) → AreAlike (f ∷ fs) (g ∷ gs) → f.0 ≡ g.0
same_first f g fs gs r s h = by (key_cmp f.0 g.0) refl
  where
    by : (o : Ordering) → key_cmp f.0 g.0 ≡ o → f.0 ≡ g.0
    by Less e = absurd (not_less f g fs gs s h e)
    by Equal e = ties f.0 g.0 e
    by Greater e = absurd (not_less g f gs fs r (λ name. sym (h name)) (turned f.0 g.0 e))

same_scalar : (v w : Scalar) → Some v ≡ Some w → v ≡ w
same_scalar v w h = cc

same_value : (f g : Field) (fs gs : Fields) → f.0 ≡ g.0 → AreAlike (f ∷ fs) (g ∷ gs) → f.1 ≡ g.1
same_value f g fs gs same h =
    same_scalar f.1 g.1 (sym (first_named f fs) ∙ h f.0 ∙ subst (λ k. field_named k (g ∷ gs) ≡ Some g.1) (sym same) (first_named g gs))

rest_alike : (f g : Field) (fs gs : Fields) → Rises (f ∷ fs) → Rises (g ∷ gs) → f.0 ≡ g.0 → AreAlike (f ∷ fs) (g ∷ gs) → AreAlike fs gs
rest_alike f g fs gs r s same h name = by (bytes_eq name f.0) refl
  where
    by : (b : Bool) → bytes_eq name f.0 ≡ b → field_named name fs ≡ field_named name gs
    by true e =
        let is = (bytes_eq-Decides name f.0).0 e in
        let mine = subst (λ k. field_named k fs ≡ None) (sym is) (none_below f.0 fs r.0) in
        let its = subst (λ k. field_named k gs ≡ None) (sym (is ∙ same)) (none_below g.0 gs s.0) in
        mine ∙ sym its
    by false e = sym (ap (named_from name f fs) e) ∙ h name ∙ ap (named_from name g gs) (subst (λ k. bytes_eq name k ≡ false) same e)

pub equal_entries : (a b : Fields) → IsRising a → IsRising b → ((name : List ℕ) → field_named name a ≡ field_named name b) → a ≡ b
equal_entries [] [] r s h = refl
equal_entries [] (g ∷ gs) r s h = absurd (let both : None ≡ Some g.1 = h g.0 ∙ first_named g gs in cc)
equal_entries (f ∷ fs) [] r s h = absurd (let both : Some f.1 ≡ None = sym (first_named f fs) ∙ h f.0 in cc)
equal_entries (f ∷ fs) (g ∷ gs) r s h =
    let name = same_first f g fs gs r s h in
    let value = same_value f g fs gs name h in
    let rest = equal_entries fs gs r.1 s.1 (rest_alike f g fs gs r s name h) in
    λ i. (name i, value i) ∷ rest i
