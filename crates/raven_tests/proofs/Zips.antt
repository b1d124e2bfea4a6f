-- From what holds at each place to what holds of two lists.
use Rattle.std.proofs.Common.{◌≡◌, ℕ, zero, suc, ◌<◌, List, [], ◌∷◌, length, get_or, arith}
use Rattle.std.specs.List.{AllZip, All}

module _ {A B : Type 0} (R : A → B → Type 0) where
  pub zip_of : (xs : List A) (ys : List B) → length ys ≡ length xs → ((k : ℕ) (a : A) (b : B) → k < length xs → R (get_or xs k a) (get_or ys k b)) → AllZip R xs ys
  zip_of [] [] e h = tt
  zip_of [] (y ∷ ys) e h = absurd (omega arith)
  zip_of (x ∷ xs) [] e h = absurd (omega arith)
  zip_of (x ∷ xs) (y ∷ ys) e h = (h 0 x y (omega arith), zip_of xs ys (omega arith) (λ k a b l. h (suc k) a b (omega arith)))

  -- what holds of each element of the first list, and carries over to the second
  pub all_over : (P : A → Type 0) (Q : B → Type 0) → ((x : A) (y : B) → P x → R x y → Q y) → (xs : List A) (ys : List B) → AllZip R xs ys → All P xs → All Q ys
  all_over P Q h [] [] z p k d l = absurd (omega arith)
  all_over P Q h [] (y ∷ ys) z p k d l = absurd z
  all_over P Q h (x ∷ xs) [] z p k d l = absurd z
  all_over P Q h (x ∷ xs) (y ∷ ys) z p zero d l = h x y (p 0 x (omega arith)) z.0
  all_over P Q h (x ∷ xs) (y ∷ ys) z p (suc k) d l = all_over P Q h xs ys z.1 (λ i e m. p (suc i) e (omega arith)) k d (omega arith)
