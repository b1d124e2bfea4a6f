-- Changes, one after another.
use Rattle.std.proofs.Common.{◌≡◌, ℕ, zero, suc, ◌+◌, ◌*◌, ◌<◌, ◌≤◌, Option, Some, None, List, [], ◌∷◌, length, drop, get_or, refl, sym, ap, ◌∙◌, arith}
use Rattle.std.specs.declared.cmp.Ordering.{Ordering}
use Rattle.std.specs.Map.{remove_entry}
use Rattle.std.specs.BTreeMap.{is_at, insert_entry}
use Rattle.std.proofs.lemmas.List.{drop_more}
use Rattle.reduce_tree.specs.Changes.{one_removed, one_inserted, removed, inserted, removals, insertions}

module _ {K V X : Type 0} (cmp : K → K → Ordering) where
  one_removed-none : (es : List (K × V)) (c : K × Option X) → c.1 ≡ None → one_removed cmp es c ≡ remove_entry (is_at (cmp c.0)) es
  one_removed-none es (k, None) e = refl
  one_removed-none es (k, Some x) e = absurd (cc e)

  one_removed-some : (es : List (K × V)) (c : K × Option X) (x : X) → c.1 ≡ Some x → one_removed cmp es c ≡ es
  one_removed-some es (k, None) x e = absurd (cc e)
  one_removed-some es (k, Some y) x e = refl

  one_inserted-none : (kept : X → V) (es : List (K × V)) (c : K × Option X) → c.1 ≡ None → one_inserted cmp kept es c ≡ es
  one_inserted-none kept es (k, None) e = refl
  one_inserted-none kept es (k, Some x) e = absurd (cc e)

  one_inserted-some : (kept : X → V) (es : List (K × V)) (c : K × Option X) (x : X) → c.1 ≡ Some x → one_inserted cmp kept es c ≡ insert_entry cmp es c.0 (kept x)
  one_inserted-some kept es (k, None) x e = absurd (cc e)
  one_inserted-some kept es (k, Some y) x e = cc

removals-none : {K X : Type 0} (c : K × Option X) (cs : List (K × Option X)) → c.1 ≡ None → removals (c ∷ cs) ≡ suc (removals cs)
removals-none (k, None) cs e = refl
removals-none (k, Some x) cs e = absurd (cc e)

removals-some : {K X : Type 0} (c : K × Option X) (cs : List (K × Option X)) (x : X) → c.1 ≡ Some x → removals (c ∷ cs) ≡ removals cs
removals-some (k, None) cs x e = absurd (cc e)
removals-some (k, Some y) cs x e = refl

insertions-none : {K X : Type 0} (c : K × Option X) (cs : List (K × Option X)) → c.1 ≡ None → insertions (c ∷ cs) ≡ insertions cs
insertions-none (k, None) cs e = refl
insertions-none (k, Some x) cs e = absurd (cc e)

insertions-some : {K X : Type 0} (c : K × Option X) (cs : List (K × Option X)) (x : X) → c.1 ≡ Some x → insertions (c ∷ cs) ≡ suc (insertions cs)
insertions-some (k, None) cs x e = absurd (cc e)
insertions-some (k, Some y) cs x e = refl

-- c is the i-th change
module _ {K X : Type 0} (cs : List (K × Option X)) (i : ℕ) (c : K × Option X) (is : c ≡ get_or cs i c) (l : i < length cs) where
  rest : drop i cs ≡ c ∷ drop (i + 1) cs
  rest = drop_more cs i c l ∙ ap (λ x. x ∷ drop (i + 1) cs) (sym is)

  module _ {V : Type 0} (cmp : K → K → Ordering) (es : List (K × V)) where
    pub out_none : c.1 ≡ None → removed cmp (remove_entry (is_at (cmp c.0)) es) (drop (i + 1) cs) ≡ removed cmp es (drop i cs)
    out_none e = ap (λ x. removed cmp x (drop (i + 1) cs)) (sym (one_removed-none cmp es c e)) ∙ sym (ap (removed cmp es) rest)

    pub out_some : (x : X) → c.1 ≡ Some x → removed cmp es (drop (i + 1) cs) ≡ removed cmp es (drop i cs)
    out_some x e = ap (λ y. removed cmp y (drop (i + 1) cs)) (sym (one_removed-some cmp es c x e)) ∙ sym (ap (removed cmp es) rest)

    pub in_none : (kept : X → V) → c.1 ≡ None → inserted cmp kept es (drop (i + 1) cs) ≡ inserted cmp kept es (drop i cs)
    in_none kept e = ap (λ y. inserted cmp kept y (drop (i + 1) cs)) (sym (one_inserted-none cmp kept es c e)) ∙ sym (ap (inserted cmp kept es) rest)

    pub in_some : (kept : X → V) (x : X) → c.1 ≡ Some x → inserted cmp kept (insert_entry cmp es c.0 (kept x)) (drop (i + 1) cs) ≡ inserted cmp kept es (drop i cs)
    in_some kept x e = ap (λ y. inserted cmp kept y (drop (i + 1) cs)) (sym (one_inserted-some cmp kept es c x e)) ∙ sym (ap (inserted cmp kept es) rest)

  pub out_fewer : c.1 ≡ None → removals (drop i cs) ≡ suc (removals (drop (i + 1) cs))
  out_fewer e = ap removals rest ∙ removals-none c (drop (i + 1) cs) e

  pub out_same : (x : X) → c.1 ≡ Some x → removals (drop i cs) ≡ removals (drop (i + 1) cs)
  out_same x e = ap removals rest ∙ removals-some c (drop (i + 1) cs) x e

  pub in_same : c.1 ≡ None → insertions (drop i cs) ≡ insertions (drop (i + 1) cs)
  in_same e = ap insertions rest ∙ insertions-none c (drop (i + 1) cs) e

  pub in_fewer : (x : X) → c.1 ≡ Some x → insertions (drop i cs) ≡ suc (insertions (drop (i + 1) cs))
  in_fewer x e = ap insertions rest ∙ insertions-some c (drop (i + 1) cs) x e

-- each change is of one kind
pub kinds : {K X : Type 0} (cs : List (K × Option X)) → removals cs + insertions cs ≡ length cs
kinds [] = refl
kinds ((k, None) ∷ cs) = let r = kinds cs in omega (arith, r)
kinds ((k, Some x) ∷ cs) = let r = kinds cs in omega (arith, r)

-- one step of n + 1 is taken, at a cost of at most b
pub step_taken : (now next from all b cost m n : ℕ) → now + m * b ≤ from + all * b → m ≡ suc n → next ≤ now + cost → cost ≤ b → next + n * b ≤ from + all * b
step_taken now next from all b cost m n h e l k = let f : m * b ≡ suc n * b = ap (λ x. x * b) e in omega (arith, h, f, l, k)

pub shared_cost : (m n k b : ℕ) → m + n ≡ k → m * b + n * b ≡ k * b
shared_cost m n k b e = let f : (m + n) * b ≡ k * b = ap (λ x. x * b) e in omega (arith, f)

pub more_each : (n a b : ℕ) → a ≤ b → n * a ≤ n * b
more_each zero a b l = omega arith
more_each (suc n) a b l = let r = more_each n a b l in omega (arith, r, l)
