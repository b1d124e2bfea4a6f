-- Names in a list, and names with `And` between them.
use Rattle.std.proofs.Common.{◌≡◌, ◌<◌, ◌≤◌, ◌+◌, ℕ, zero, suc, add-one, List, [], ◌∷◌, ◌++◌, true, false, refl, sym, ap, ◌∙◌, arith, length, take, drop, get_or, codes}
use Rattle.std.proofs.lemmas.List.{append-nil, append_assoc}
use Rattle.std.specs.Prelude.{flat_map, if◌then◌else◌, insert}
use Rattle.std.specs.Ordering.{is_gt}
use Rattle.spec_data.specs.Folding.{key_cmp}
use Rattle.spec_index.specs.Optimiser.{and_between, with_name}

-- ONE IN ITS PLACE

-- the names before i, and the others with one more in its place
abbrev pub with_from : ℕ → List ℕ → List (List ℕ) → List (List ℕ)
with_from i name names = take i names ++ with_name name (drop i names)

passed : (name : List ℕ) (i : ℕ) (names : List (List ℕ)) (n : List ℕ) → i < length names → n ≡ get_or names i n → is_gt (key_cmp name n) ≡ true → with_from i name names ≡ with_from (suc i) name names
passed name i [] n lt is behind = absurd (omega arith)
passed name zero (m ∷ names) n lt is behind = ap (λ b. if b then m ∷ with_name name names else name ∷ m ∷ names) (ap (λ m. is_gt (key_cmp name m)) (sym is) ∙ behind)
passed name (suc i) (m ∷ names) n lt is behind = ap (λ rest. m ∷ rest) (passed name i names n (omega arith) is behind)

pub goes_on : (name : List ℕ) (i : ℕ) (names : List (List ℕ)) (n : List ℕ) → i < length names → n ≡ get_or names i n → true ≡ is_gt (key_cmp name n) → with_from i name names ≡ with_from (i + 1) name names
goes_on name i names n lt is behind = rw (add-one i) (passed name i names n lt is (sym behind))

pub stops : (name : List ℕ) (i : ℕ) (names : List (List ℕ)) (n : List ℕ) → i < length names → n ≡ get_or names i n → false ≡ is_gt (key_cmp name n) → with_from i name names ≡ insert names i name
stops name i [] n lt is before = absurd (omega arith)
stops name zero (m ∷ names) n lt is before = ap (λ b. if b then m ∷ with_name name names else name ∷ m ∷ names) (ap (λ m. is_gt (key_cmp name m)) (sym is) ∙ sym before)
stops name (suc i) (m ∷ names) n lt is before = ap (λ rest. m ∷ rest) (stops name i names n (omega arith) is before)

pub ends : (name : List ℕ) (i : ℕ) (names : List (List ℕ)) → length names ≤ i → with_from i name names ≡ insert names i name
ends name zero [] end = refl
ends name (suc i) [] end = refl
ends name zero (m ∷ names) end = absurd (omega arith)
ends name (suc i) (m ∷ names) end = ap (λ rest. m ∷ rest) (ends name i names (omega arith))

pub ruleset places = (goes_on, stops, ends)

-- `And` BETWEEN THEM

-- each name with `And` before it
abbrev pub and_before : List (List ℕ) → List ℕ
and_before names = flat_map (λ n. codes "And" ++ n) names

pub first_and : (n : List ℕ) (names : List (List ℕ)) → and_between (n ∷ names) ≡ n ++ and_before names
first_and n [] = sym (append-nil n)
first_and n (m ∷ names) = ap (λ rest. n ++ (codes "And" ++ rest)) (first_and m names) ∙ ap (λ rest. n ++ rest) (sym (append_assoc (codes "And") m (and_before names)))

none_left : (names : List (List ℕ)) (i : ℕ) → length names ≤ i → and_before (drop i names) ≡ []
none_left [] zero end = refl
none_left [] (suc i) end = refl
none_left (n ∷ names) zero end = absurd (omega arith)
none_left (n ∷ names) (suc i) end = none_left names i (omega arith)

-- behind an old text, once the first name and then the others were added
pub all_added : (old first begun now : List ℕ) (more names : List (List ℕ)) (i : ℕ) → length more ≤ i → now ++ and_before (drop i more) ≡ begun ++ and_before more
    → begun ≡ old ++ first → names ≡ first ∷ more → now ≡ old ++ and_between names
all_added old first begun now more names i end so_far start all =
    sym (append-nil now) ∙ ap (λ rest. now ++ rest) (sym (none_left more i end)) ∙ so_far ∙ ap (λ text. text ++ and_before more) start ∙ append_assoc old first (and_before more)
    ∙ ap (λ rest. old ++ rest) (sym (first_and first more) ∙ ap and_between (sym all))
