-- The first use of an operand that is refused.
use Rattle.std.proofs.Common.{◌≡◌, ℕ, List, [], ◌∷◌, ◌++◌, Option, Some, None, refl, sym, ap, ◌∙◌}
use Rattle.std.specs.Borrow.{Bor}
use Rattle.std.specs.Option.{option_or}
use Rattle.std.specs.Prelude.{option_copied}
use Rattle.spec_data.specs.Rising.{Pairs}
use Rattle.spec_query.specs.Parameters.{Use, first_refused, use_refused}

or_assoc : {A : Type 0} (a b c : Option A) → option_or a (option_or b c) ≡ option_or (option_or a b) c
or_assoc None b c = refl
or_assoc (Some x) b c = refl

or_none : {A : Type 0} (a : Option A) → option_or a None ≡ a
or_none None = refl
or_none (Some x) = refl

copied_or : (a b : Option (Bor (List ℕ))) → option_copied (option_or a b) ≡ option_or (option_copied a) (option_copied b)
copied_or None b = refl
copied_or (Some x) b = refl

first_append : (ps : Pairs) (us vs : List Use) → first_refused ps (us ++ vs) ≡ option_or (first_refused ps us) (first_refused ps vs)
first_append ps [] vs = refl
first_append ps (u ∷ us) vs = ap (option_or (use_refused ps u)) (first_append ps us vs) ∙ or_assoc (use_refused ps u) (first_refused ps us) (first_refused ps vs)

pub first_of_both : (ps : Pairs) (us vs : List Use) (a b : Option (Bor (List ℕ))) → option_copied a ≡ first_refused ps us → option_copied b ≡ first_refused ps vs
    → option_copied (option_or a b) ≡ first_refused ps (us ++ vs)
first_of_both ps us vs a b left right = copied_or a b ∙ ap (λ z. option_or z (option_copied b)) left ∙ ap (option_or (first_refused ps us)) right ∙ sym (first_append ps us vs)

pub first_of_one : (ps : Pairs) (u : Use) → use_refused ps u ≡ first_refused ps (u ∷ [])
first_of_one ps u = sym (or_none (use_refused ps u))

pub first_of_two : (ps : Pairs) (u v : Use) (a b : Option (Bor (List ℕ))) → option_copied a ≡ use_refused ps u → option_copied b ≡ use_refused ps v
    → option_copied (option_or a b) ≡ first_refused ps (u ∷ v ∷ [])
first_of_two ps u v a b left right = first_of_both ps (u ∷ []) (v ∷ []) a b (left ∙ first_of_one ps u) (right ∙ first_of_one ps v)

pub ruleset conditions = (first_of_both, first_of_one, first_of_two)

-- LISTS

pub refused_first : (ps : Pairs) (u : Use) (us : List Use) (name : List ℕ) → Some name ≡ use_refused ps u → Some name ≡ first_refused ps (u ∷ us)
refused_first ps u us name e = ap (λ z. option_or z (first_refused ps us)) e

pub passed_first : (ps : Pairs) (u : Use) (us : List Use) → None ≡ use_refused ps u → first_refused ps us ≡ first_refused ps (u ∷ us)
passed_first ps u us e = ap (λ z. option_or z (first_refused ps us)) e

pub ruleset lists = (refused_first, passed_first)
