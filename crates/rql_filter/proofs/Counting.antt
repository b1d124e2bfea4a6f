-- How many entries meet a condition.
use Rattle.std.proofs.Common.{◌≡◌, suc, ◌+◌, List, [], ◌∷◌, length, Bool, true, false, not, cond, filter, refl, ap, arith}

module _ {X : Type 0} where
  pub count_all : (xs : List X) → length xs ≡ length (filter (λ (x : X). true) xs)
  count_all [] = refl
  count_all (x ∷ xs) = ap suc (count_all xs)

  -- those that pass a test and those that do not are all
  pub count_not : (p : X → Bool) (xs : List X) → length (filter (λ x. not (p x)) xs) + length (filter p xs) ≡ length xs
  count_not p [] = refl
  count_not p (x ∷ xs) =
      elim (p x) as (λ b. length (cond (not b) (x ∷ filter (λ x. not (p x)) xs) (filter (λ x. not (p x)) xs)) + length (cond b (x ∷ filter p xs) (filter p xs)) ≡ suc (length xs)) [
        | true ↦ omega (arith, count_not p xs)
        | false ↦ omega (arith, count_not p xs)
      ]
