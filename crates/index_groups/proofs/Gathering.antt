-- The entries of trees that have the entries of a list in groups are those of the list.
use Rattle.std.proofs.Common.{◌≡◌, ◌⊎◌, inl, inr, ℕ, Bool, true, false, cond, Option, Some, None, is_some, List, [], ◌∷◌, ◌++◌, filter, refl, sym, ap, subst, ◌∙◌}
use Rattle.std.specs.declared.cmp.Ordering.{Ordering}
use Rattle.std.specs.declared.cmp.Ordering.TheVariants.{Less, Equal, Greater}
use Rattle.std.specs.Ordering.{is_eq}
use Rattle.std.specs.Cmp.{IsTotalOrder}
use Rattle.std.specs.FinMap.{find as entry_at, get-from_entries}
use Rattle.std.specs.Map.{lookup}
use Rattle.std.specs.BTreeMap.{is_at}
use Rattle.std.proofs.lemmas.Cmp.{tied_itself}
use Rattle.spec_data.specs.Folding.{folded, key_cmp}
use Rattle.index_tree.specs.Meaning.{Fields}
use Rattle.paged_map.specs.Pairs.{AllAnswer, IsRising}
use Rattle.paged_map.proofs.Rising.{less_after_at, lookup_none}
use Rattle.reduce_tree.specs.Tree.{Tree}
use Rattle.reduce_groups.specs.Groups.{entries_at, entries_of_tree}
use Rattle.reduce_groups.specs.Grouping.{AreGrouped, of_group}
use Rattle.reference_track.specs.Folded.{by_folded, folded_entries}
use Rattle.reference_track.specs.Sets.{id_cmp}
use Rattle.index_groups.specs.Groups.{fields_of}
use Rattle.index_groups.specs.Trees.{all_entries, entries_in}
use Rattle.reference_track.proofs.FoldedMaps.{same_results, total}

abbrev or_else : Option Fields → Option Fields → Option Fields
or_else None b = b
or_else (Some a) b = Some a

some_first : (a b : Option Fields) → is_some a ≡ true → is_some (or_else a b) ≡ true
some_first None b h = absurd (cc h)
some_first (Some a) b h = refl

some_second : (a b : Option Fields) → is_some b ≡ true → is_some (or_else a b) ≡ true
some_second None b h = h
some_second (Some a) b h = refl

none_from : (a : Option Fields) → is_some a ≡ false → a ≡ None
none_from None h = refl
none_from (Some a) h = absurd (cc h)

carried : (a b c : Option Fields) → a ≡ b → (b ≡ None) ⊎ (b ≡ c) → (a ≡ None) ⊎ (a ≡ c)
carried a b c e (inl n) = inl (e ∙ n)
carried a b c e (inr s) = inr (e ∙ s)

joined : (a b c : Option Fields) → (a ≡ None) ⊎ (a ≡ c) → (b ≡ None) ⊎ (b ≡ c) → (or_else a b ≡ None) ⊎ (or_else a b ≡ c)
joined None b c h i = i
joined (Some a) b c (inl n) i = absurd (cc n)
joined (Some a) b c (inr e) i = inr e

-- the fields of the entry of a folded id
abbrev at_id : {V : Type 0} → (V → Fields) → List ℕ → List (List ℕ × V) → Option Fields
at_id f q es = entry_at key_cmp q (folded_entries (fields_of f es))

module _ {V : Type 0} (f : V → Fields) (q : List ℕ) where
  at_append : (xs ys : List (List ℕ × V)) → at_id f q (xs ++ ys) ≡ or_else (at_id f q xs) (at_id f q ys)
  at_append [] ys = refl
  at_append (x ∷ xs) ys = by (is_eq (key_cmp q (folded x.0))) (at_append xs ys)
    where
      by : (b : Bool) → at_id f q (xs ++ ys) ≡ or_else (at_id f q xs) (at_id f q ys) → cond b (Some (f x.1)) (at_id f q (xs ++ ys)) ≡ or_else (cond b (Some (f x.1)) (at_id f q xs)) (at_id f q ys)
      by true h = refl
      by false h = h

  -- an entry with another id is passed over
  passed : (e : List ℕ × V) (es : List (List ℕ × V)) (r : Ordering) → key_cmp q (folded e.0) ≡ r → is_eq r ≡ false → at_id f q (e ∷ es) ≡ at_id f q es
  passed e es r t n = ap (λ x. cond (is_eq x) (Some (f e.1)) (at_id f q es)) t ∙ ap (λ b. cond b (Some (f e.1)) (at_id f q es)) n

  -- no other entry of a list in order has the id of the first
  none_later : (p : List ℕ × V → Bool) (k : List ℕ) (es : List (List ℕ × V)) → key_cmp q (folded k) ≡ Equal → AllAnswer id_cmp k Less es → at_id f q (filter p es) ≡ None
  none_later p k [] t a = refl
  none_later p k (x ∷ es) t a = by (p x) (none_later p k es t a.1)
    where
      less : key_cmp q (folded x.0) ≡ Less
      less = let o : IsTotalOrder key_cmp = total in o.congr q (folded k) (folded x.0) t ∙ a.0

      by : (b : Bool) → at_id f q (filter p es) ≡ None → at_id f q (cond b (x ∷ filter p es) (filter p es)) ≡ None
      by true h = passed x (filter p es) Less less refl ∙ h
      by false h = h

  -- of an id, a part of a list in order has the entry of the list or none
  inside : (p : List ℕ × V → Bool) (es : List (List ℕ × V)) → IsRising id_cmp es → (at_id f q (filter p es) ≡ None) ⊎ (at_id f q (filter p es) ≡ at_id f q es)
  inside p [] s = inl refl
  inside p (e ∷ es) s = by (key_cmp q (folded e.0)) refl (p e) (inside p es s.1)
    where
      by : (r : Ordering) → key_cmp q (folded e.0) ≡ r → (b : Bool) → (at_id f q (filter p es) ≡ None) ⊎ (at_id f q (filter p es) ≡ at_id f q es) →
          (at_id f q (cond b (e ∷ filter p es) (filter p es)) ≡ None) ⊎ (at_id f q (cond b (e ∷ filter p es) (filter p es)) ≡ cond (is_eq r) (Some (f e.1)) (at_id f q es))
      by Equal t true h = inr (ap (λ r. cond (is_eq r) (Some (f e.1)) (at_id f q (filter p es))) t)
      by Equal t false h = inl (none_later p e.0 es t s.0)
      by Less t true h = carried (at_id f q (e ∷ filter p es)) (at_id f q (filter p es)) (at_id f q es) (passed e (filter p es) Less t refl) h
      by Less t false h = h
      by Greater t true h = carried (at_id f q (e ∷ filter p es)) (at_id f q (filter p es)) (at_id f q es) (passed e (filter p es) Greater t refl) h
      by Greater t false h = h

module _ {G V : Type 0} (R : G → G → Ordering) (o : IsTotalOrder R) (f : V → Fields) (key : V → G) (q : List ℕ) where
  -- an entry is among those that have its key
  pub own : (es : List (List ℕ × V)) → is_some (at_id f q es) ≡ true → (g : G) × (is_some (at_id f q (of_group R key g es)) ≡ true)
  own [] h = absurd (cc h)
  own (e ∷ es) h = by (key_cmp q (folded e.0)) refl h (own es)
    where
      here : key_cmp q (folded e.0) ≡ Equal → is_some (at_id f q (of_group R key (key e.1) (e ∷ es))) ≡ true
      here t =
          ap (λ r. is_some (at_id f q (cond (is_eq r) (e ∷ of_group R key (key e.1) es) (of_group R key (key e.1) es)))) (tied_itself o (key e.1))
          ∙ ap (λ r. is_some (cond (is_eq r) (Some (f e.1)) (at_id f q (of_group R key (key e.1) es)))) t

      there : (r : Ordering) → key_cmp q (folded e.0) ≡ r → is_eq r ≡ false → (g : G) → is_some (at_id f q (of_group R key g es)) ≡ true → is_some (at_id f q (of_group R key g (e ∷ es))) ≡ true
      there r t n g i = elim (is_eq (R g (key e.1))) as (λ b. is_some (at_id f q (cond b (e ∷ of_group R key g es) (of_group R key g es))) ≡ true) [
        | true ↦ ap is_some (passed f q e (of_group R key g es) r t n) ∙ i
        | false ↦ i
      ]

      by : (r : Ordering) → key_cmp q (folded e.0) ≡ r → is_some (cond (is_eq r) (Some (f e.1)) (at_id f q es)) ≡ true → (is_some (at_id f q es) ≡ true → (g : G) × (is_some (at_id f q (of_group R key g es)) ≡ true)) →
          (g : G) × (is_some (at_id f q (of_group R key g (e ∷ es))) ≡ true)
      by Less t h i = let found = i h in (found.0, there Less t refl found.0 found.1)
      by Equal t h i = (key e.1, here t)
      by Greater t h i = let found = i h in (found.0, there Greater t refl found.0 found.1)

-- of the id these have the entry of the others, or none
abbrev IsOwn : {V : Type 0} → (V → Fields) → List ℕ → List (List ℕ × V) → List (List ℕ × V) → Type 0
IsOwn f q es xs = (at_id f q xs ≡ None) ⊎ (at_id f q xs ≡ at_id f q es)

abbrev pub AllTrees : {F G V : Type 0} → (G → List (List ℕ × V) → Type 0) → List (G × Tree F (List ℕ) V) → Type 0
AllTrees P [] = Unit {0}
AllTrees P (t ∷ ts) = P t.0 t.1.entries × AllTrees P ts

module _ {F G V : Type 0} (R : G → G → Ordering) (o : IsTotalOrder R) where
  -- what holds of no entries, and of the entries that each key has, holds of each tree
  pub each : (P : G → List (List ℕ × V) → Type 0) → ((g : G) → P g []) → (ts : List (G × Tree F (List ℕ) V)) → IsRising R ts → ((g : G) → P g (entries_at R g ts)) → AllTrees P ts
  each P none [] s h = tt
  each P none (t ∷ ts) s h = (here, each P none ts s.1 (λ g. by g (R g t.0) refl (h g)))
    where
      here : P t.0 t.1.entries
      here = subst (P t.0) (ap (λ r. entries_of_tree (cond (is_eq r) (Some t.1) (lookup (is_at (R t.0)) ts))) (tied_itself o t.0)) (h t.0)

      by : (g : G) (r : Ordering) → R g t.0 ≡ r → P g (entries_of_tree (cond (is_eq r) (Some t.1) (lookup (is_at (R g)) ts))) → P g (entries_at R g ts)
      by g Less e x = x
      by g Equal e x = subst (P g) (sym (ap entries_of_tree (lookup_none R g ts (less_after_at R o g t.0 ts e s.0)))) (none g)
      by g Greater e x = x

  -- an entry in the tree of some key is in one of the trees
  reached : (f : V → Fields) (q : List ℕ) (g : G) (ts : List (G × Tree F (List ℕ) V)) → is_some (at_id f q (entries_at R g ts)) ≡ true → is_some (at_id f q (all_entries ts)) ≡ true
  reached f q g [] h = h
  reached f q g (t ∷ ts) h = by (R g t.0) h (reached f q g ts)
    where
      by : (r : Ordering) → is_some (at_id f q (entries_of_tree (cond (is_eq r) (Some t.1) (lookup (is_at (R g)) ts)))) ≡ true →
          (is_some (at_id f q (entries_at R g ts)) ≡ true → is_some (at_id f q (all_entries ts)) ≡ true) → is_some (at_id f q (t.1.entries ++ all_entries ts)) ≡ true
      by Less h i = ap is_some (at_append f q t.1.entries (all_entries ts)) ∙ some_second (at_id f q t.1.entries) (at_id f q (all_entries ts)) (i h)
      by Equal h i = ap is_some (at_append f q t.1.entries (all_entries ts)) ∙ some_first (at_id f q t.1.entries) (at_id f q (all_entries ts)) h
      by Greater h i = ap is_some (at_append f q t.1.entries (all_entries ts)) ∙ some_second (at_id f q t.1.entries) (at_id f q (all_entries ts)) (i h)

  together : (f : V → Fields) (q : List ℕ) (es : List (List ℕ × V)) (ts : List (G × Tree F (List ℕ) V)) → AllTrees (λ g xs. IsOwn f q es xs) ts → IsOwn f q es (all_entries ts)
  together f q es [] a = inl refl
  together f q es (t ∷ ts) a =
      carried (at_id f q (t.1.entries ++ all_entries ts)) (or_else (at_id f q t.1.entries) (at_id f q (all_entries ts))) (at_id f q es) (at_append f q t.1.entries (all_entries ts))
      (joined (at_id f q t.1.entries) (at_id f q (all_entries ts)) (at_id f q es) a.0 (together f q es ts a.1))

  module _ (f : V → Fields) (key : V → G) (es : List (List ℕ × V)) (ts : List (G × Tree F (List ℕ) V)) (s : IsRising id_cmp es) (r : IsRising R ts) (grouped : AreGrouped R key es ts) where
    same_at : (q : List ℕ) → at_id f q (all_entries ts) ≡ at_id f q es
    same_at q = from (together f q es ts (each (λ g xs. IsOwn f q es xs) (λ g. inl refl) ts r (λ g. subst (IsOwn f q es) (sym (grouped g)) (inside f q (λ e. is_eq (R g (key e.1))) es s))))
      where
        by : (b : Bool) → is_some (at_id f q es) ≡ b → at_id f q (all_entries ts) ≡ None → at_id f q (all_entries ts) ≡ at_id f q es
        by true h n =
            let mine = own R o f key q es h in
            let some : is_some (at_id f q (all_entries ts)) ≡ true = reached f q mine.0 ts (ap (λ xs. is_some (at_id f q xs)) (grouped mine.0) ∙ mine.1) in
            let none : is_some (at_id f q (all_entries ts)) ≡ false = ap is_some n in
            absurd cc
        by false h n = n ∙ sym (none_from (at_id f q es) h)

        from : IsOwn f q es (all_entries ts) → at_id f q (all_entries ts) ≡ at_id f q es
        from (inl n) = by (is_some (at_id f q es)) refl n
        from (inr e) = e

    pub gathered : entries_in f ts ≡ by_folded (fields_of f es)
    gathered = same_results (entries_in f ts) (by_folded (fields_of f es)) (λ q.
        get-from_entries total (folded_entries (fields_of f (all_entries ts))) q ∙ same_at q ∙ sym (get-from_entries total (folded_entries (fields_of f es)) q))
