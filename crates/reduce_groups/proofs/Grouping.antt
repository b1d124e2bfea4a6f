-- The entries of a group follow those of the whole list.
use Rattle.std.proofs.Common.{◌≡◌, Bool, true, false, cond, Some, None, List, [], ◌∷◌, filter, refl, sym, ap, ◌∙◌}
use Rattle.std.specs.declared.cmp.Ordering.{Ordering}
use Rattle.std.specs.declared.cmp.Ordering.TheVariants.{Less, Equal, Greater}
use Rattle.std.specs.Ordering.{match_ordering, is_eq}
use Rattle.std.specs.Cmp.{IsTotalOrder}
use Rattle.std.specs.Map.{lookup, remove_entry}
use Rattle.std.specs.BTreeMap.{is_at, insert_entry}
use Rattle.paged_map.specs.Pairs.{AllAnswer, IsRising}
use Rattle.paged_map.proofs.Rising.{rising_insert, rising_remove}
use Rattle.reduce_tree.specs.Tree.{Tree}
use Rattle.reduce_groups.specs.Groups.{entries_at, after_removals, after_insertions}
use Rattle.reduce_groups.specs.Grouping.{of_group, AreGrouped, all_removed, AreThere, all_inserted, AreNew}

module _ {G K E : Type 0} (R : G → G → Ordering) (S : K → K → Ordering) (o : IsTotalOrder S) (key : E → G) (q : G) where
  all_filtered : (p : K × E → Bool) (k : K) (es : List (K × E)) → AllAnswer S k Less es → AllAnswer S k Less (filter p es)
  all_filtered p k [] a = tt
  all_filtered p k (e ∷ es) a = by (p e) (all_filtered p k es a.1)
    where
      by : (b : Bool) → AllAnswer S k Less (filter p es) → AllAnswer S k Less (cond b (e ∷ filter p es) (filter p es))
      by true h = (a.0, h)
      by false h = h

  all_below : (k m : K) (es : List (K × E)) → S k m ≡ Less → AllAnswer S m Less es → AllAnswer S k Less es
  all_below k m [] l a = tt
  all_below k m (e ∷ es) l a = (o.trans k m e.0 l a.0, all_below k m es l a.1)

  put_first : (k : K) (v : E) (es : List (K × E)) → AllAnswer S k Less es → insert_entry S es k v ≡ (k, v) ∷ es
  put_first k v [] a = refl
  put_first k v (e ∷ es) a = ap (λ r. match_ordering r ((k, v) ∷ e ∷ es) ((e.0, v) ∷ es) (e ∷ insert_entry S es k v)) a.0

  -- a new entry comes to its own group alone
  pub group_inserted : (k : K) (v : E) (es : List (K × E)) → IsRising S es → lookup (is_at (S k)) es ≡ None →
      of_group R key q (insert_entry S es k v) ≡ cond (is_eq (R q (key v))) (insert_entry S (of_group R key q es) k v) (of_group R key q es)
  group_inserted k v [] s n = refl
  group_inserted k v (e ∷ es) s n = by (S k e.0) refl n (group_inserted k v es s.1)
    where
      p : K × E → Bool
      p x = is_eq (R q (key x.1))

      two : (b d : Bool) → S k e.0 ≡ Greater → (cond d (e ∷ cond b (insert_entry S (filter p es) k v) (filter p es)) (cond b (insert_entry S (filter p es) k v) (filter p es)))
          ≡ cond b (insert_entry S (cond d (e ∷ filter p es) (filter p es)) k v) (cond d (e ∷ filter p es) (filter p es))
      two true true g = sym (ap (λ r. match_ordering r ((k, v) ∷ e ∷ filter p es) ((e.0, v) ∷ filter p es) (e ∷ insert_entry S (filter p es) k v)) g)
      two true false g = refl
      two false true g = refl
      two false false g = refl

      first : (b : Bool) → S k e.0 ≡ Less → cond b ((k, v) ∷ filter p (e ∷ es)) (filter p (e ∷ es)) ≡ cond b (insert_entry S (filter p (e ∷ es)) k v) (filter p (e ∷ es))
      first true l = sym (put_first k v (filter p (e ∷ es)) (all_filtered p k (e ∷ es) (l, all_below k e.0 es l s.0)))
      first false l = refl

      by : (r : Ordering) → S k e.0 ≡ r → cond (is_eq r) (Some e.1) (lookup (is_at (S k)) es) ≡ None →
          (lookup (is_at (S k)) es ≡ None → filter p (insert_entry S es k v) ≡ cond (is_eq (R q (key v))) (insert_entry S (filter p es) k v) (filter p es)) →
          filter p (match_ordering r ((k, v) ∷ e ∷ es) ((e.0, v) ∷ es) (e ∷ insert_entry S es k v)) ≡ cond (is_eq (R q (key v))) (insert_entry S (filter p (e ∷ es)) k v) (filter p (e ∷ es))
      by Less l n h = first (is_eq (R q (key v))) l
      by Equal l n h = absurd (cc n)
      by Greater l n h = ap (λ x. cond (p e) (e ∷ x) x) (h n) ∙ two (is_eq (R q (key v))) (p e) l

  -- an entry goes from its own group alone
  pub group_removed : (k : K) (v : E) (es : List (K × E)) → Some v ≡ lookup (is_at (S k)) es →
      of_group R key q (remove_entry (is_at (S k)) es) ≡ cond (is_eq (R q (key v))) (remove_entry (is_at (S k)) (of_group R key q es)) (of_group R key q es)
  group_removed k v [] n = absurd (cc n)
  group_removed k v (e ∷ es) n = by (is_at (S k) e.0) refl n (group_removed k v es)
    where
      p : K × E → Bool
      p x = is_eq (R q (key x.1))

      out : K × E → Bool
      out x = is_at (S k) x.0

      here : (d : Bool) → is_at (S k) e.0 ≡ true → filter p es ≡ cond d (remove_entry (is_at (S k)) (cond d (e ∷ filter p es) (filter p es))) (cond d (e ∷ filter p es) (filter p es))
      here true t = sym (ap (λ b. cond b (filter p es) (e ∷ remove_entry (is_at (S k)) (filter p es))) t)
      here false t = refl

      there : (b d : Bool) → is_at (S k) e.0 ≡ false → cond d (e ∷ cond b (remove_entry (is_at (S k)) (filter p es)) (filter p es)) (cond b (remove_entry (is_at (S k)) (filter p es)) (filter p es))
          ≡ cond b (remove_entry (is_at (S k)) (cond d (e ∷ filter p es) (filter p es))) (cond d (e ∷ filter p es) (filter p es))
      there true true f = sym (ap (λ b. cond b (filter p es) (e ∷ remove_entry (is_at (S k)) (filter p es))) f)
      there true false f = refl
      there false true f = refl
      there false false f = refl

      by : (r : Bool) → is_at (S k) e.0 ≡ r → Some v ≡ cond r (Some e.1) (lookup (is_at (S k)) es) →
          (Some v ≡ lookup (is_at (S k)) es → filter p (remove_entry (is_at (S k)) es) ≡ cond (is_eq (R q (key v))) (remove_entry (is_at (S k)) (filter p es)) (filter p es)) →
          filter p (cond r es (e ∷ remove_entry (is_at (S k)) es)) ≡ cond (is_eq (R q (key v))) (remove_entry (is_at (S k)) (filter p (e ∷ es))) (filter p (e ∷ es))
      by true t n h = let same : v ≡ e.1 = cc n in here (p e) t ∙ ap (λ x. cond (is_eq (R q (key x))) (remove_entry (is_at (S k)) (filter p (e ∷ es))) (filter p (e ∷ es))) (sym same)
      by false t n h = ap (λ x. cond (p e) (e ∷ x) x) (h n) ∙ there (is_eq (R q (key v))) (p e) t

  pub group_after_removals : (es : List (K × E)) (cs : List (G × K)) → AreThere S key es cs → after_removals R S q (of_group R key q es) cs ≡ of_group R key q (all_removed S es cs)
  group_after_removals es [] a = refl
  group_after_removals es (c ∷ cs) a =
      let v = a.0.0 in
      let is = a.0.1.1 in
      ap (λ l. after_removals R S q l cs) (ap (λ g. cond (is_eq (R q g)) (remove_entry (is_at (S c.1)) (of_group R key q es)) (of_group R key q es)) is ∙ sym (group_removed c.1 v es a.0.1.0))
      ∙ group_after_removals (remove_entry (is_at (S c.1)) es) cs a.1

  pub group_after_insertions : (es : List (K × E)) (cs : List (G × (K × E))) → IsRising S es → AreNew S key es cs → after_insertions R S q (of_group R key q es) cs ≡ of_group R key q (all_inserted S es cs)
  group_after_insertions es [] s a = refl
  group_after_insertions es (c ∷ cs) s a =
      ap (λ l. after_insertions R S q l cs) (ap (λ g. cond (is_eq (R q g)) (insert_entry S (of_group R key q es) c.1.0 c.1.1) (of_group R key q es)) a.0.1 ∙ sym (group_inserted c.1.0 c.1.1 es s a.0.0))
      ∙ group_after_insertions (insert_entry S es c.1.0 c.1.1) cs (rising_insert S o c.1.0 c.1.1 es s) a.1

all_removed_rising : {G K E : Type 0} (S : K → K → Ordering) (es : List (K × E)) (cs : List (G × K)) → IsRising S es → IsRising S (all_removed S es cs)
all_removed_rising S es [] s = s
all_removed_rising S es (c ∷ cs) s = all_removed_rising S (remove_entry (is_at (S c.1)) es) cs (rising_remove S c.1 es s)

-- what is grouped stays grouped: the clause of a change, and that the changes are those of the entries
pub still_grouped : {F G K E : Type 0} (R : G → G → Ordering) (S : K → K → Ordering) (o : IsTotalOrder S) (key : E → G) (es : List (K × E)) (before after : List (G × Tree F K E)) (removals : List (G × K)) (insertions : List (G × (K × E))) →
    IsRising S es → AreGrouped R key es before → AreThere S key es removals → AreNew S key (all_removed S es removals) insertions →
    ((q : G) → entries_at R q after ≡ after_insertions R S q (after_removals R S q (entries_at R q before) removals) insertions) → AreGrouped R key (all_inserted S (all_removed S es removals) insertions) after
still_grouped R S o key es before after removals insertions s a there new told = λ q.
    told q ∙ ap (λ l. after_insertions R S q (after_removals R S q l removals) insertions) (a q) ∙ ap (λ l. after_insertions R S q l insertions) (group_after_removals R S o key q es removals there)
    ∙ group_after_insertions R S o key q (all_removed S es removals) insertions (all_removed_rising S es removals s) new
