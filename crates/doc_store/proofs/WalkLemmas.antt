-- How the rows in scope past an etag are found, one after another.
use Rattle.std.proofs.Common.{◌≡◌, ℕ, ◌<◌, ◌≤◌, ◌+◌, ◌*◌, List, [], ◌∷◌, ◌++◌, Bool, true, false, cond, ◌&&◌, ◌||◌, Option, Some, None, nat_lt, filter, length, take, drop, get_or, option_map, append-nil, refl, sym, ap, ◌∙◌, subst, arith, mul-le-mul_right}
use Rattle.std.specs.List.{find}
use Rattle.std.specs.declared.cmp.Ordering.TheVariants.{Less, Equal, Greater}
use Rattle.std.specs.Ordering.{nat_cmp, is_lt}
use Rattle.std.specs.Cmp.{ranked}
use Rattle.std.proofs.lemmas.Bool.{ltb-true, ltb-false, lt-ltb, le-ltb}
use Rattle.std.proofs.lemmas.List.{drop_all, drop_more, length-append, length-take, take_all, take-append-le}
use Rattle.spec_data.specs.Rows.{Row}
use Rattle.spec_store.specs.Store.{AreRising}
use Rattle.spec_data.specs.Tables.{Scope, in_scope}
use Rattle.spec_store.proofs.StoreLemmas.{both_true}
use Rattle.doc_store.specs.Maps.{by_etag, earlier, is_of, rows_of}
use Rattle.doc_store.proofs.FilterLemmas.{dropped, find-both}

-- BY ETAG

is_lt-nat_cmp : (x y : ℕ) → is_lt (nat_cmp x y) ≡ nat_lt x y
is_lt-nat_cmp x y =
    elim (nat_cmp x y) as (λ r. r ≡ nat_cmp x y → is_lt r ≡ nat_lt x y) [
      | Less ↦ λ e. sym (lt-ltb x y (ranked x y Less e))
      | Equal ↦ λ e. sym (le-ltb x y (let h : x ≡ y = ranked x y Equal e in omega arith))
      | Greater ↦ λ e. sym (le-ltb x y (let h : y < x = ranked x y Greater e in omega arith))
    ] refl

found_by : (p : ℕ → Bool) (passes : Row → Bool) (rows : List Row) → ((r : Row) → p r.etag ≡ passes r) → option_map (λ e. e.1) (find (λ e. p e.0) (by_etag rows)) ≡ find passes rows
found_by p passes [] same = refl
found_by p passes (r ∷ rows) same =
    ap (λ b. option_map (λ (e : ℕ × Row). e.1) (cond b (Some (r.etag, r)) (find (λ e. p e.0) (by_etag rows)))) (same r)
    ∙ elim (passes r) as (λ b. option_map (λ (e : ℕ × Row). e.1) (cond b (Some (r.etag, r)) (find (λ e. p e.0) (by_etag rows))) ≡ cond b (Some r) (find passes rows)) [
      | true ↦ refl
      | false ↦ found_by p passes rows same
    ]

pub found_after : (pairs : List (ℕ × Row)) (rows : List Row) (etag : ℕ) → pairs ≡ by_etag rows → option_map (λ e. e.1) (find (λ e. is_lt (nat_cmp etag e.0)) pairs) ≡ find (λ r. nat_lt etag r.etag) rows
found_after pairs rows etag is =
    ap (λ es. option_map (λ (e : ℕ × Row). e.1) (find (λ e. is_lt (nat_cmp etag e.0)) es)) is
    ∙ found_by (λ n. is_lt (nat_cmp etag n)) (λ r. nat_lt etag r.etag) rows (λ r. is_lt-nat_cmp etag r.etag)

pub found_above : (p : Row → Bool) (low : ℕ) (rows : List Row) (r : Row) → AreRising low rows → find p rows ≡ Some r → low < r.etag
found_above p low [] r up h = absurd cc
found_above p low (x ∷ rows) r up h =
    elim (p x) as (λ b. cond b (Some x) (find p rows) ≡ Some r → low < r.etag) [
      | true ↦ λ is. let same : x ≡ r = cc in subst (λ (y : Row). low < y.etag) same up.0
      | false ↦ λ is. let a = found_above p x.etag rows r up.1 is in let b : low < x.etag = up.0 in omega arith
    ] h

pub found_past : (rows : List Row) (e : ℕ) (r : Row) → find (λ x. nat_lt e x.etag) rows ≡ Some r → e < r.etag
found_past [] e r h = absurd cc
found_past (x ∷ rows) e r h =
    elim (nat_lt e x.etag) as (λ b. nat_lt e x.etag ≡ b → cond b (Some x) (find (λ y. nat_lt e y.etag) rows) ≡ Some r → e < r.etag) [
      | true ↦ λ t is. let same : x ≡ r = cc in subst (λ (y : Row). e < y.etag) same (ltb-true e x.etag t)
      | false ↦ λ t is. found_past rows e r is
    ] refl h

-- OF TWO COLLECTIONS

pub earlier_none : (a : Option Row) → earlier a None ≡ a
earlier_none None = refl
earlier_none (Some x) = refl

-- of three rows it makes no difference which two are compared first
pub earlier_assoc : (a b c : Option Row) → earlier (earlier a b) c ≡ earlier a (earlier b c)
earlier_assoc None b c = refl
earlier_assoc (Some x) None c = refl
earlier_assoc (Some x) (Some y) None = earlier_none (earlier (Some x) (Some y))
earlier_assoc (Some x) (Some y) (Some z) =
    elim (nat_lt y.etag x.etag) as (λ b. nat_lt y.etag x.etag ≡ b → earlier (cond b (Some y) (Some x)) (Some z) ≡ earlier (Some x) (cond (nat_lt z.etag y.etag) (Some z) (Some y))) [
      | true ↦ λ e. elim (nat_lt z.etag y.etag) as (λ b. nat_lt z.etag y.etag ≡ b → cond b (Some z) (Some y) ≡ earlier (Some x) (cond b (Some z) (Some y))) [
        | true ↦ λ f. sym (ap (λ b. cond b (Some z) (Some x)) (lt-ltb z.etag x.etag (let h = ltb-true y.etag x.etag e in let k = ltb-true z.etag y.etag f in omega arith)))
        | false ↦ λ f. sym (ap (λ b. cond b (Some y) (Some x)) e)
      ] refl
      | false ↦ λ e. elim (nat_lt z.etag y.etag) as (λ b. nat_lt z.etag y.etag ≡ b → cond (nat_lt z.etag x.etag) (Some z) (Some x) ≡ earlier (Some x) (cond b (Some z) (Some y))) [
        | true ↦ λ f. refl
        | false ↦ λ f.
            ap (λ b. cond b (Some z) (Some x)) (le-ltb z.etag x.etag (let h = ltb-false y.etag x.etag e in let k = ltb-false z.etag y.etag f in omega arith))
            ∙ sym (ap (λ b. cond b (Some y) (Some x)) e)
      ] refl
    ] refl

-- before a row that rises come no later ones
stays : (p : Row → Bool) (r : Row) (rows : List Row) → AreRising r.etag rows → Some r ≡ earlier (Some r) (find p rows)
stays p r rows up =
    elim (find p rows) as (λ o. find p rows ≡ o → Some r ≡ earlier (Some r) o) [
      | None ↦ λ is. refl
      | Some x ↦ λ is. sym (ap (λ b. cond b (Some x) (Some r)) (le-ltb x.etag r.etag (let h = found_above p r.etag rows x up is in omega arith)))
    ] refl

comes : (p : Row → Bool) (r : Row) (rows : List Row) → AreRising r.etag rows → Some r ≡ earlier (find p rows) (Some r)
comes p r rows up =
    elim (find p rows) as (λ o. find p rows ≡ o → Some r ≡ earlier o (Some r)) [
      | None ↦ λ is. refl
      | Some x ↦ λ is. sym (ap (λ b. cond b (Some r) (Some x)) (lt-ltb r.etag x.etag (found_above p r.etag rows x up is)))
    ] refl

-- the first of either kind is the earlier of the first of each
find-either : (p q t : Row → Bool) (low : ℕ) (rows : List Row) → AreRising low rows → find (λ r. (p r || q r) && t r) rows ≡ earlier (find (λ r. p r && t r) rows) (find (λ r. q r && t r) rows)
find-either p q t low [] up = refl
find-either p q t low (r ∷ rows) up =
    let rest : find either rows ≡ earlier (find one rows) (find other rows) = find-either p q t r.etag rows up.1 in
    elim (p r) as (λ a. cond ((a || q r) && t r) (Some r) (find either rows) ≡ earlier (cond (a && t r) (Some r) (find one rows)) (cond (q r && t r) (Some r) (find other rows))) [
      | true ↦ elim (t r) as (λ b. cond b (Some r) (find either rows) ≡ earlier (cond b (Some r) (find one rows)) (cond (q r && b) (Some r) (find other rows))) [
        | true ↦ elim (q r) as (λ c. Some r ≡ earlier (Some r) (cond (c && true) (Some r) (find other rows))) [
          | true ↦ sym (ap (λ b. cond b (Some r) (Some r)) (le-ltb r.etag r.etag (omega arith)))
          | false ↦ stays other r rows up.1
        ]
        | false ↦ rest ∙ ap (earlier (find one rows)) (sym (dropped (q r) (Some r) (find other rows)))
      ]
      | false ↦ elim (q r && t r) as (λ b. cond b (Some r) (find either rows) ≡ earlier (find one rows) (cond b (Some r) (find other rows))) [
        | true ↦ comes one r rows up.1
        | false ↦ rest
      ]
    ]
  where
    either : Row → Bool
    either x = (p x || q x) && t x

    one : Row → Bool
    one x = p x && t x

    other : Row → Bool
    other x = q x && t x

-- FROM COLLECTION TO COLLECTION

-- the first row in scope past an etag
abbrev pub first_in : Scope → ℕ → List Row → Option Row
first_in scope e rows = find (λ r. in_scope scope r && nat_lt e r.etag) rows

none_in : (e : ℕ) (rows : List Row) → first_in [] e rows ≡ None
none_in e [] = refl
none_in e (r ∷ rows) = none_in e rows

pub first_in_map : (collections : List (List ℕ × List Row)) (rows : List Row) (c : List ℕ) (e : ℕ) → rows_of collections c ≡ filter (is_of c) rows
    → find (λ r. nat_lt e r.etag) (rows_of collections c) ≡ find (λ r. is_of c r && nat_lt e r.etag) rows
first_in_map collections rows c e shows = ap (find (λ r. nat_lt e r.etag)) shows ∙ find-both (is_of c) (λ r. nat_lt e r.etag) rows

-- after one collection more
pub first_step : (scope : Scope) (e : ℕ) (rows : List Row) (i : ℕ) (c : List ℕ) (first own next : Option Row) → AreRising 0 rows → i < length scope → get_or scope i c ≡ c
    → own ≡ find (λ r. is_of c r && nat_lt e r.etag) rows → next ≡ earlier first own
    → earlier first (first_in (drop i scope) e rows) ≡ first_in scope e rows → earlier next (first_in (drop (i + 1) scope) e rows) ≡ first_in scope e rows
first_step scope e rows i c first own next up lt is found made was =
    let rest : Scope = drop (i + 1) scope in
    let here : drop i scope ≡ c ∷ rest = drop_more scope i c lt ∙ ap (λ d. d ∷ rest) is in
    ap (λ o. earlier o (first_in rest e rows)) made
    ∙ earlier_assoc first own (first_in rest e rows)
    ∙ ap (λ o. earlier first (earlier o (first_in rest e rows))) found
    ∙ ap (earlier first) (sym (find-either (is_of c) (in_scope rest) (λ r. nat_lt e r.etag) 0 rows up))
    ∙ ap (λ s. earlier first (first_in s e rows)) (sym here)
    ∙ was

pub first_last : (scope : Scope) (e : ℕ) (rows : List Row) (i : ℕ) (first : Option Row) → length scope ≤ i
    → earlier first (first_in (drop i scope) e rows) ≡ first_in scope e rows → first ≡ first_in scope e rows
first_last scope e rows i first le was =
    sym (earlier_none first) ∙ ap (earlier first) (sym (ap (λ s. first_in s e rows) (drop_all i scope le) ∙ none_in e rows)) ∙ was

-- FROM ROW TO ROW

all_past : (p : Row → Bool) (e low : ℕ) (rows : List Row) → AreRising low rows → e ≤ low → filter (λ x. p x && nat_lt e x.etag) rows ≡ filter p rows
all_past p e low [] up le = refl
all_past p e low (x ∷ rows) up le =
    let rest : filter passes rows ≡ filter p rows = all_past p e x.etag rows up.1 (let a = up.0 in omega arith) in
    ap (λ b. cond (p x && b) (x ∷ filter passes rows) (filter passes rows)) (lt-ltb e x.etag (let a = up.0 in omega arith))
    ∙ elim (p x) as (λ b. cond (b && true) (x ∷ filter passes rows) (filter passes rows) ≡ cond b (x ∷ filter p rows) (filter p rows)) [
      | true ↦ ap (λ xs. x ∷ xs) rest
      | false ↦ rest
    ]
  where
    passes : Row → Bool
    passes y = p y && nat_lt e y.etag

-- the first row past an etag, and then those past its own
pub stepped : (p : Row → Bool) (e low : ℕ) (rows : List Row) (r : Row) → AreRising low rows → find (λ x. p x && nat_lt e x.etag) rows ≡ Some r
    → filter (λ x. p x && nat_lt e x.etag) rows ≡ r ∷ filter (λ x. p x && nat_lt r.etag x.etag) rows
stepped p e low [] r up h = absurd cc
stepped p e low (x ∷ rows) r up h =
    elim (p x && nat_lt e x.etag) as (λ b. p x && nat_lt e x.etag ≡ b → cond b (Some x) (find (past e) rows) ≡ Some r → cond b (x ∷ filter (past e) rows) (filter (past e) rows) ≡ r ∷ cond (p x && nat_lt r.etag x.etag) (x ∷ filter (past r.etag) rows) (filter (past r.etag) rows)) [
      | true ↦ λ t is.
          let same : x ≡ r = cc in
          let le : e ≤ x.etag = (let a = ltb-true e x.etag (both_true (p x) (nat_lt e x.etag) t).1 in omega arith) in
          let rest : filter (past e) rows ≡ filter (past x.etag) rows = all_past p e x.etag rows up.1 le ∙ sym (all_past p x.etag x.etag rows up.1 (omega arith)) in
          subst (λ (y : Row). x ∷ filter (past e) rows ≡ y ∷ cond (p x && nat_lt y.etag x.etag) (x ∷ filter (past y.etag) rows) (filter (past y.etag) rows)) same
          (ap (λ xs. x ∷ xs) (rest ∙ sym (out x.etag (omega arith))))
      | false ↦ λ t is.
          stepped p e x.etag rows r up.1 is ∙ ap (λ xs. r ∷ xs) (sym (out r.etag (let a = found_above (past e) x.etag rows r up.1 is in omega arith)))
    ] refl h
  where
    past : ℕ → Row → Bool
    past n y = p y && nat_lt n y.etag

    -- a row that is not past an etag is left out
    out : (n : ℕ) → x.etag ≤ n → cond (p x && nat_lt n x.etag) (x ∷ filter (past n) rows) (filter (past n) rows) ≡ filter (past n) rows
    out n le = ap (λ b. cond (p x && b) (x ∷ filter (past n) rows) (filter (past n) rows)) (le-ltb n x.etag le) ∙ dropped (p x) _ _

pub walked : (found rest more all : List Row) (r taken : Row) (found2 : List Row) → found2 ≡ found ++ taken ∷ [] → taken ≡ r → rest ≡ r ∷ more → found ++ rest ≡ all → found2 ++ more ≡ all
walked found rest more all r taken found2 made is next was =
    ap (λ xs. xs ++ more) (made ∙ ap (λ x. found ++ x ∷ []) is) ∙ joined found ∙ ap (λ xs. found ++ xs) (sym next) ∙ was
  where
    joined : (xs : List Row) → (xs ++ r ∷ []) ++ more ≡ xs ++ r ∷ more
    joined [] = refl
    joined (x ∷ xs) = ap (λ ys. x ∷ ys) (joined xs)

-- THE END OF A WALK

pub all_taken : (found rest all : List Row) (max : ℕ) → rest ≡ [] → found ++ rest ≡ all → length found ≤ max → found ≡ take max all
all_taken found rest all max none was few = sym (take_all max found few) ∙ ap (take max) (all_is found rest all none was)
  where
    all_is : (found rest all : List Row) → rest ≡ [] → found ++ rest ≡ all → found ≡ all
    all_is found rest all none was = sym (append-nil found) ∙ ap (λ xs. found ++ xs) (sym none) ∙ was

pub no_more : (found rest all : List Row) → rest ≡ [] → found ++ rest ≡ all → length all ≡ length found
no_more found rest all none was = ap length (sym was ∙ ap (λ xs. found ++ xs) none ∙ append-nil found)

pub first_taken : (found rest all : List Row) (max : ℕ) → length found ≡ max → found ++ rest ≡ all → found ≡ take max all
first_taken found rest all max full was =
    sym (take_all max found (omega arith)) ∙ sym (take-append-le max found rest (omega arith)) ∙ ap (take max) was

pub more_left : (found rest more all : List Row) (r : Row) → rest ≡ r ∷ more → found ++ rest ≡ all → length found < length all
more_left found rest more all r next was = let a = ap length (sym was ∙ ap (λ xs. found ++ xs) next) in omega (arith, length-append found (r ∷ more))

-- HOW OFTEN A WALK LOOKS

-- it has looked through the scope once for each row that it found, and once more
pub looks : (found rest all : List Row) (max n old so_far reads : ℕ) → length found ≤ max → found ++ rest ≡ all → so_far ≡ old + length found * n → reads ≡ so_far + n
    → reads ≤ old + (length (take max all) + 1) * n
looks found rest all max n old so_far reads few was counted once =
    let longer : length all ≡ length found + length rest = ap length (sym was) ∙ length-append found rest in
    let least : length found ≤ length (take max all) = omega (arith, length-take max all) in
    let most : length found * n ≤ length (take max all) * n = mul-le-mul_right n least in
    omega arith

pub one_row_more : (found found2 : List Row) (r : Row) (n old so_far reads : ℕ) → found2 ≡ found ++ r ∷ [] → so_far ≡ old + length found * n → reads ≡ so_far + n → reads ≡ old + length found2 * n
one_row_more found found2 r n old so_far reads made counted once =
    let more : length found2 ≡ length found + 1 = ap length made ∙ length-append found (r ∷ []) in
    let total : reads ≡ old + (length found + 1) * n = omega arith in
    total ∙ ap (λ k. old + k * n) (sym more)
