-- Pages of lists.
use Rattle.std.proofs.Common.{◌≡◌, ℕ, suc, zero, ◌≤◌, List, [], ◌∷◌, length, take, drop, true, false, cond, Option, Some, None, map, Ordering, Equal, refl, ap, ◌∙◌, arith}
use Rattle.std.specs.Ordering.{is_gt}
use Rattle.std.proofs.lemmas.List.{length-take, length-drop}
use Rattle.spec_query.specs.Plan.{up_to}
use Rattle.spec_query.specs.Sorting.{inserted, sorted}

module _ {X : Type 0} where
  -- if all are equal, nothing moves
  front : (x : X) (ys : List X) → inserted (λ (a b : X). Equal) x ys ≡ x ∷ ys
  front x [] = refl
  front x (y ∷ ys) = refl

  pub unsorted : (xs : List X) → sorted (λ (a b : X). Equal) xs ≡ xs
  unsorted [] = refl
  unsorted (x ∷ xs) = ap (inserted (λ (a b : X). Equal) x) (unsorted xs) ∙ front x xs

  -- none is lost
  length-inserted : (R : X → X → Ordering) (x : X) (ys : List X) → length (inserted R x ys) ≡ suc (length ys)
  length-inserted R x [] = refl
  length-inserted R x (y ∷ ys) = elim (is_gt (R x y)) as (λ b. length (cond b (y ∷ inserted R x ys) (x ∷ y ∷ ys)) ≡ suc (suc (length ys))) [ true ↦ ap suc (length-inserted R x ys) | false ↦ refl ]

  pub length-sorted : (R : X → X → Ordering) (xs : List X) → length (sorted R xs) ≡ length xs
  length-sorted R [] = refl
  length-sorted R (x ∷ xs) = length-inserted R x (sorted R xs) ∙ ap suc (length-sorted R xs)

  map-drop : {Y : Type 0} (f : X → Y) (n : ℕ) (xs : List X) → map f (drop n xs) ≡ drop n (map f xs)
  map-drop f zero xs = refl
  map-drop f (suc n) [] = refl
  map-drop f (suc n) (x ∷ xs) = map-drop f n xs

  map-take : {Y : Type 0} (f : X → Y) (n : ℕ) (xs : List X) → map f (take n xs) ≡ take n (map f xs)
  map-take f zero xs = refl
  map-take f (suc n) [] = refl
  map-take f (suc n) (x ∷ xs) = ap (λ l. f x ∷ l) (map-take f n xs)

  pub map-cut : {Y : Type 0} (f : X → Y) (start : ℕ) (size : Option ℕ) (xs : List X) → map f (up_to size (drop start xs)) ≡ up_to size (drop start (map f xs))
  map-cut f start None xs = map-drop f start xs
  map-cut f start (Some n) xs = map-take f n (drop start xs) ∙ ap (take n) (map-drop f start xs)

  -- a page is no longer than the list
  pub length-cut : (start : ℕ) (size : Option ℕ) (xs : List X) → length (up_to size (drop start xs)) ≤ length xs
  length-cut start None xs = omega (arith, length-drop start xs)
  length-cut start (Some n) xs = omega (arith, length-take n (drop start xs), length-drop start xs)

-- pages of lists of one length have one length
pub same-cut : {X Y : Type 0} (start : ℕ) (size : Option ℕ) (xs : List X) (ys : List Y) → length xs ≡ length ys → length (up_to size (drop start xs)) ≡ length (up_to size (drop start ys))
same-cut start None xs ys h = omega (arith, h, length-drop start xs, length-drop start ys)
same-cut start (Some n) xs ys h = omega (arith, h, length-take n (drop start xs), length-drop start xs, length-take n (drop start ys), length-drop start ys)
