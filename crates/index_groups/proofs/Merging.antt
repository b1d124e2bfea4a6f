-- Two lists in the order of their keys, merged into one.
use Rattle.std.proofs.Common.{◌≡◌, Bool, true, false, cond, ◌&&◌, Option, Some, None, List, [], ◌∷◌, refl, sym, ap, subst, ◌∙◌}
use lib.Dec.{T}
use Rattle.std.specs.declared.cmp.Ordering.{Ordering}
use Rattle.std.specs.declared.cmp.Ordering.TheVariants.{Less, Equal, Greater}
use Rattle.std.specs.Ordering.{is_eq, is_lt, ordering_reverse}
use Rattle.std.specs.Cmp.{IsTotalOrder, alike_right}
use Rattle.std.specs.FinMap.{find, is_sorted}
use Rattle.std.specs.FinMap.Entries.{below_all, by_order}

both : (a b : Bool) → T a → T b → T (a && b)
both true b p q = q
both false b p q = p

first : (a b : Bool) → T (a && b) → T a
first true b p = tt
first false b p = p

second : (a b : Bool) → T (a && b) → T b
second true b p = p
second false b p = absurd p

less : (r : Ordering) → T (is_lt r) → r ≡ Less
less Less p = refl
less Equal p = absurd p
less Greater p = absurd p

equal : (r : Ordering) → is_eq r ≡ true → r ≡ Equal
equal Less e = absurd (cc e)
equal Equal e = refl
equal Greater e = absurd (cc e)

-- what two lists have at one key, as one
abbrev pub joined : {X : Type 0} → (X → X → X) → Option X → Option X → Option X
joined m None b = b
joined m (Some a) None = Some a
joined m (Some a) (Some b) = Some (m a b)

module _ {K X : Type 0} (R : K → K → Ordering) (m : X → X → X) where
  -- a pair and what its followers give with a list, with that list
  abbrev pub merged_with : K × X → (List (K × X) → List (K × X)) → List (K × X) → List (K × X)
  merged_with x more [] = x ∷ more []
  merged_with x more (y ∷ ys) = by_order (R x.0 y.0) (x ∷ more (y ∷ ys)) ((x.0, m x.1 y.1) ∷ more ys) (y ∷ merged_with x more ys)

  -- in the order of the keys; a key of both lists once, with what both have as one
  abbrev pub merged_lists : List (K × X) → List (K × X) → List (K × X)
  merged_lists [] ys = ys
  merged_lists (x ∷ xs) ys = merged_with x (merged_lists xs) ys

  pub merged_nil : (xs : List (K × X)) → merged_lists xs [] ≡ xs
  merged_nil [] = refl
  merged_nil (x ∷ xs) = ap (λ l. x ∷ l) (merged_nil xs)

  module _ (o : IsTotalOrder R) where
    is_less : (x y : K) → R x y ≡ Less → T (is_lt (R x y))
    is_less x y e = subst (λ r. T (is_lt r)) (sym e) tt

    turned : (x y : K) → R x y ≡ Greater → R y x ≡ Less
    turned x y e = o.antisymm y x ∙ ap ordering_reverse e

    lower : (x y : K) (es : List (K × X)) → R x y ≡ Less → T (below_all R y es) → T (below_all R x es)
    lower x y [] p h = tt
    lower x y (e ∷ es) p h =
        let rest = second (is_lt (R y e.0)) (below_all R y es) h in
        let here : R y e.0 ≡ Less = less (R y e.0) (first (is_lt (R y e.0)) (below_all R y es) h) in
        both (is_lt (R x e.0)) (below_all R x es) (is_less x e.0 (o.trans x y e.0 p here)) (lower x y es p rest)

    level : (x y : K) (es : List (K × X)) → R x y ≡ Equal → T (below_all R y es) → T (below_all R x es)
    level x y [] p h = tt
    level x y (e ∷ es) p h =
        let here = subst (λ r. T (is_lt r)) (sym (o.congr x y e.0 p)) (first (is_lt (R y e.0)) (below_all R y es) h) in
        both (is_lt (R x e.0)) (below_all R x es) here (level x y es p (second (is_lt (R y e.0)) (below_all R y es) h))

    -- what is below both lists is below the merged one
    below_with : (k : K) (x : K × X) (more : List (K × X) → List (K × X)) → T (is_lt (R k x.0)) → ((zs : List (K × X)) → T (below_all R k zs) → T (below_all R k (more zs)))
        → (ys : List (K × X)) → T (below_all R k ys) → T (below_all R k (merged_with x more ys))
    below_with k x more l h [] b = both (is_lt (R k x.0)) (below_all R k (more [])) l (h [] tt)
    below_with k x more l h (y ∷ ys) b =
        let own = first (is_lt (R k y.0)) (below_all R k ys) b in
        let rest = second (is_lt (R k y.0)) (below_all R k ys) b in
        elim (R x.0 y.0) as (λ r. T (below_all R k (by_order r (x ∷ more (y ∷ ys)) ((x.0, m x.1 y.1) ∷ more ys) (y ∷ merged_with x more ys)))) [
          | Less ↦ both (is_lt (R k x.0)) (below_all R k (more (y ∷ ys))) l (h (y ∷ ys) b)
          | Equal ↦ both (is_lt (R k x.0)) (below_all R k (more ys)) l (h ys rest)
          | Greater ↦ both (is_lt (R k y.0)) (below_all R k (merged_with x more ys)) own (below_with k x more l h ys rest)
        ]

    below_merged : (k : K) (xs ys : List (K × X)) → T (below_all R k xs) → T (below_all R k ys) → T (below_all R k (merged_lists xs ys))
    below_merged k [] ys a b = b
    below_merged k (x ∷ xs) ys a b =
        let rest = second (is_lt (R k x.0)) (below_all R k xs) a in
        below_with k x (merged_lists xs) (first (is_lt (R k x.0)) (below_all R k xs) a) (λ zs c. below_merged k xs zs rest c) ys b

    sorted_with : (x : K × X) (xs : List (K × X)) → T (below_all R x.0 xs) → ((zs : List (K × X)) → T (is_sorted R zs) → T (is_sorted R (merged_lists xs zs)))
        → (ys : List (K × X)) → T (is_sorted R ys) → T (is_sorted R (merged_with x (merged_lists xs) ys))
    sorted_with x xs low h [] s = both (below_all R x.0 (merged_lists xs [])) (is_sorted R (merged_lists xs [])) (below_merged x.0 xs [] low tt) (h [] tt)
    sorted_with x xs low h (y ∷ ys) s =
        by (first (below_all R y.0 ys) (is_sorted R ys) s) (second (below_all R y.0 ys) (is_sorted R ys) s) (sorted_with x xs low h ys (second (below_all R y.0 ys) (is_sorted R ys) s)) (R x.0 y.0) refl
      where
        by : T (below_all R y.0 ys) → T (is_sorted R ys) → T (is_sorted R (merged_with x (merged_lists xs) ys)) → (r : Ordering) → R x.0 y.0 ≡ r
            → T (is_sorted R (by_order r (x ∷ merged_lists xs (y ∷ ys)) ((x.0, m x.1 y.1) ∷ merged_lists xs ys) (y ∷ merged_with x (merged_lists xs) ys)))
        by after rest more Less e =
            let all : T (below_all R x.0 (y ∷ ys)) = both (is_lt (R x.0 y.0)) (below_all R x.0 ys) (is_less x.0 y.0 e) (lower x.0 y.0 ys e after) in
            both (below_all R x.0 (merged_lists xs (y ∷ ys))) (is_sorted R (merged_lists xs (y ∷ ys))) (below_merged x.0 xs (y ∷ ys) low all) (h (y ∷ ys) s)
        by after rest more Equal e = both (below_all R x.0 (merged_lists xs ys)) (is_sorted R (merged_lists xs ys)) (below_merged x.0 xs ys low (level x.0 y.0 ys e after)) (h ys rest)
        by after rest more Greater e =
            let turn : R y.0 x.0 ≡ Less = turned x.0 y.0 e in
            let mine : T (below_all R y.0 (merged_with x (merged_lists xs) ys)) =
            below_with y.0 x (merged_lists xs) (is_less y.0 x.0 turn) (λ zs c. below_merged y.0 xs zs (lower y.0 x.0 xs turn low) c) ys after in
            both (below_all R y.0 (merged_with x (merged_lists xs) ys)) (is_sorted R (merged_with x (merged_lists xs) ys)) mine more

    pub merged_sorted : (xs ys : List (K × X)) → T (is_sorted R xs) → T (is_sorted R ys) → T (is_sorted R (merged_lists xs ys))
    merged_sorted [] ys s t = t
    merged_sorted (x ∷ xs) ys s t =
        sorted_with x xs (first (below_all R x.0 xs) (is_sorted R xs) s) (λ zs u. merged_sorted xs zs (second (below_all R x.0 xs) (is_sorted R xs) s) u) ys t

    -- a key below all keys of a list is not in it
    missed : (q : K) (es : List (K × X)) → T (below_all R q es) → find R q es ≡ None
    missed q [] b = refl
    missed q (e ∷ es) b =
        ap (λ r. cond (is_eq r) (Some e.1) (find R q es)) (less (R q e.0) (first (is_lt (R q e.0)) (below_all R q es) b)) ∙ missed q es (second (is_lt (R q e.0)) (below_all R q es) b)

    -- nor is a key that ties with one below the first of a list in order
    passed : (q x : K) (y : K × X) (ys : List (K × X)) → is_eq (R q x) ≡ true → R x y.0 ≡ Less → T (below_all R y.0 ys) → find R q (y ∷ ys) ≡ None
    passed q x y ys t l b =
        let under : R q y.0 ≡ Less = o.congr q x y.0 (equal (R q x) t) ∙ l in
        missed q (y ∷ ys) (both (is_lt (R q y.0)) (below_all R q ys) (is_less q y.0 under) (lower q y.0 ys under b))

    found_with : (q : K) (x : K × X) (xs : List (K × X)) → T (below_all R x.0 xs) → ((zs : List (K × X)) → T (is_sorted R zs) → find R q (merged_lists xs zs) ≡ joined m (find R q xs) (find R q zs))
        → (ys : List (K × X)) → T (is_sorted R ys) → find R q (merged_with x (merged_lists xs) ys) ≡ joined m (find R q (x ∷ xs)) (find R q ys)
    found_with q x xs low h [] s = elim (is_eq (R q x.0)) as (λ b. cond b (Some x.1) (find R q (merged_lists xs [])) ≡ joined m (cond b (Some x.1) (find R q xs)) None) [
      | true ↦ refl
      | false ↦ h [] tt
    ]
    found_with q x xs low h (y ∷ ys) s =
        by (first (below_all R y.0 ys) (is_sorted R ys) s) (second (below_all R y.0 ys) (is_sorted R ys) s) (found_with q x xs low h ys (second (below_all R y.0 ys) (is_sorted R ys) s)) (R x.0 y.0) refl
      where
        at_x : T (below_all R y.0 ys) → R x.0 y.0 ≡ Less → (b : Bool) → is_eq (R q x.0) ≡ b → cond b (Some x.1) (find R q (merged_lists xs (y ∷ ys))) ≡ joined m (cond b (Some x.1) (find R q xs)) (find R q (y ∷ ys))
        at_x after e true t = ap (joined m (Some x.1)) (sym (passed q x.0 y ys t e after))
        at_x after e false t = h (y ∷ ys) s

        at_both : T (is_sorted R ys) → (b : Bool) → cond b (Some (m x.1 y.1)) (find R q (merged_lists xs ys)) ≡ joined m (cond b (Some x.1) (find R q xs)) (cond b (Some y.1) (find R q ys))
        at_both rest true = refl
        at_both rest false = h ys rest

        at_y : find R q (merged_with x (merged_lists xs) ys) ≡ joined m (find R q (x ∷ xs)) (find R q ys) → R x.0 y.0 ≡ Greater → (b : Bool) → is_eq (R q y.0) ≡ b
            → cond b (Some y.1) (find R q (merged_with x (merged_lists xs) ys)) ≡ joined m (find R q (x ∷ xs)) (cond b (Some y.1) (find R q ys))
        at_y more e true t = ap (λ a. joined m a (Some y.1)) (sym (passed q y.0 x xs t (turned x.0 y.0 e) low))
        at_y more e false t = more

        by : T (below_all R y.0 ys) → T (is_sorted R ys) → find R q (merged_with x (merged_lists xs) ys) ≡ joined m (find R q (x ∷ xs)) (find R q ys) → (r : Ordering) → R x.0 y.0 ≡ r
            → find R q (by_order r (x ∷ merged_lists xs (y ∷ ys)) ((x.0, m x.1 y.1) ∷ merged_lists xs ys) (y ∷ merged_with x (merged_lists xs) ys)) ≡ joined m (find R q (x ∷ xs)) (find R q (y ∷ ys))
        by after rest more Less e = at_x after e (is_eq (R q x.0)) refl
        by after rest more Equal e = at_both rest (is_eq (R q x.0)) ∙ ap (λ r. joined m (find R q (x ∷ xs)) (cond (is_eq r) (Some y.1) (find R q ys))) (alike_right o x.0 y.0 q e)
        by after rest more Greater e = at_y more e (is_eq (R q y.0)) refl

    -- at a key it has what both lists have
    pub merged_found : (q : K) (xs ys : List (K × X)) → T (is_sorted R xs) → T (is_sorted R ys) → find R q (merged_lists xs ys) ≡ joined m (find R q xs) (find R q ys)
    merged_found q [] ys s t = refl
    merged_found q (x ∷ xs) ys s t =
        found_with q x xs (first (below_all R x.0 xs) (is_sorted R xs) s) (λ zs u. merged_found q xs zs (second (below_all R x.0 xs) (is_sorted R xs) s) u) ys t
