-- Runs of bytes that are written in a text as they are.
use Rattle.std.proofs.Common.{◌≡◌, ℕ, zero, suc, append_assoc, ◌+◌, ◌<◌, List, [], ◌∷◌, ◌++◌, length, take, drop, get_or, flat_map, refl, sym, ap, ◌∙◌, arith}
use Rattle.std.proofs.lemmas.Grind.{flat_map-append}
use Rattle.std.proofs.lemmas.List.{take_more, drop_more, take-append-drop}
use Rattle.spec_data.specs.Written.{escaped}

pub plain_more : (xs : List ℕ) (n d : ℕ) → n < length xs → flat_map escaped (take n xs) ≡ take n xs → escaped (get_or xs n d) ≡ get_or xs n d ∷ [] → flat_map escaped (take (n + 1) xs) ≡ take (n + 1) xs
plain_more xs n d l h e =
    ap (flat_map escaped) (take_more xs n d l) ∙ flat_map-append escaped (take n xs) (get_or xs n d ∷ []) ∙ ap (λ y. y ++ flat_map escaped (get_or xs n d ∷ [])) h ∙ ap (λ y. take n xs ++ (y ++ [])) e ∙ sym (take_more xs n d l)

pub plain_run : (xs : List ℕ) (n : ℕ) → flat_map escaped (take n xs) ≡ take n xs → flat_map escaped xs ≡ take n xs ++ flat_map escaped (drop n xs)
plain_run xs n h = ap (flat_map escaped) (sym (take-append-drop n xs)) ∙ flat_map-append escaped (take n xs) (drop n xs) ∙ ap (λ y. y ++ flat_map escaped (drop n xs)) h

pub first_one : (xs : List ℕ) (n d : ℕ) → n < length xs → flat_map escaped (drop n xs) ≡ escaped (get_or xs n d) ++ flat_map escaped (drop (n + 1) xs)
first_one xs n d l = ap (flat_map escaped) (drop_more xs n d l)

-- what is left after two fronts
none_left : (xs : List ℕ) → xs ≡ [] → (k : ℕ) → drop k xs ≡ xs
none_left [] e zero = refl
none_left [] e (suc k) = refl
none_left (x ∷ xs) e k = cc

drop_twice : (n m : ℕ) (xs : List ℕ) → drop m (drop n xs) ≡ drop (n + m) xs
drop_twice zero m xs = let e : 0 + m ≡ m = omega arith in ap (λ k. drop k xs) (sym e)
drop_twice (suc n) m [] = none_left [] refl m ∙ sym (none_left [] refl (suc n + m))
drop_twice (suc n) m (x ∷ xs) = let e : suc n + m ≡ suc (n + m) = omega arith in drop_twice n m xs ∙ ap (λ k. drop k (x ∷ xs)) (sym e)

-- a run that is written as it is, and what comes after it
pub run_written : (out xs : List ℕ) (n m : ℕ) → flat_map escaped (take m (drop n xs)) ≡ take m (drop n xs) → (out ++ take m (drop n xs)) ++ flat_map escaped (drop (n + m) xs) ≡ out ++ flat_map escaped (drop n xs)
run_written out xs n m h =
    append_assoc out (take m (drop n xs)) (flat_map escaped (drop (n + m) xs))
    ∙ ap (λ y. out ++ (take m (drop n xs) ++ flat_map escaped y)) (sym (drop_twice n m xs))
    ∙ ap (λ y. out ++ y) (sym (plain_run (drop n xs) m h))
