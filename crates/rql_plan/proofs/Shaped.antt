-- Empty lists.
use Rattle.std.proofs.Common.{◌≡◌, ◌↔◌, IsTrue, List, [], ◌∷◌, Bool, true, false, refl}
use Rattle.spec_query.specs.Query.{is_empty}

pub empty_is : {X : Type 0} (xs : List X) (b : Bool) → (IsTrue b ↔ (xs ≡ [])) → b ≡ is_empty xs
empty_is [] true h = refl
empty_is [] false h = let e = h.1 refl in cc
empty_is (x ∷ xs) true h = let e = h.0 refl in cc
empty_is (x ∷ xs) false h = refl
