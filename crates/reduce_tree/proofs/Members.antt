-- The entries of members, and that each member has the row of its entry.
use Rattle.std.proofs.Common.{◌≡◌, Bool, true, false, cond, Option, Some, None, List, [], ◌∷◌, map, refl, sym, ap, ◌∙◌}
use Rattle.std.specs.declared.cmp.Ordering.{Ordering}
use Rattle.std.specs.declared.cmp.Ordering.TheVariants.{Less, Equal, Greater}
use Rattle.std.specs.Ordering.{match_ordering}
use Rattle.std.specs.Map.{remove_entry}
use Rattle.std.specs.BTreeMap.{is_at, insert_entry}
use Rattle.paged_map.specs.Totals.{total_of, plus}
use Rattle.reduce_tree.specs.Changes.{removed, inserted}
use Rattle.reduce_tree.specs.Folding.{fold_of, result_of}
use Rattle.reduce_tree.specs.Members.{entries_of, member_of, AreLifted}
use Rattle.reduce_tree.specs.declared.member.Member.{Member}

module _ {K E R : Type 0} (cmp : K → K → Ordering) (lifted : E → R) where
  pub entries-insert : (ms : List (K × Member E R)) (k : K) (m : Member E R) → entries_of (insert_entry cmp ms k m) ≡ insert_entry cmp (entries_of ms) k m.entry
  entries-insert [] k m = refl
  entries-insert (p ∷ ms) k m = by (entries-insert ms k m) (cmp k p.0)
    where
      by : entries_of (insert_entry cmp ms k m) ≡ insert_entry cmp (entries_of ms) k m.entry → (o : Ordering) → entries_of (match_ordering o ((k, m) ∷ p ∷ ms) ((p.0, m) ∷ ms) (p ∷ insert_entry cmp ms k m)) ≡ match_ordering o ((k, m.entry) ∷ entries_of (p ∷ ms)) ((p.0, m.entry) ∷ entries_of ms) ((p.0, p.1.entry) ∷ insert_entry cmp (entries_of ms) k m.entry)
      by h Less = refl
      by h Equal = refl
      by h Greater = ap (λ l. (p.0, p.1.entry) ∷ l) h

  pub entries-remove : (ms : List (K × Member E R)) (k : K) → entries_of (remove_entry (is_at (cmp k)) ms) ≡ remove_entry (is_at (cmp k)) (entries_of ms)
  entries-remove [] k = refl
  entries-remove (p ∷ ms) k = by (entries-remove ms k) (is_at (cmp k) (p.0))
    where
      by : entries_of (remove_entry (is_at (cmp k)) ms) ≡ remove_entry (is_at (cmp k)) (entries_of ms) → (b : Bool) → entries_of (cond b ms (p ∷ remove_entry (is_at (cmp k)) ms)) ≡ cond b (entries_of ms) ((p.0, p.1.entry) ∷ remove_entry (is_at (cmp k)) (entries_of ms))
      by h true = refl
      by h false = ap (λ l. (p.0, p.1.entry) ∷ l) h

  pub lifted-insert : (ms : List (K × Member E R)) (k : K) (m : Member E R) → AreLifted lifted ms → m.row ≡ lifted m.entry → AreLifted lifted (insert_entry cmp ms k m)
  lifted-insert [] k m a e = (e, tt)
  lifted-insert (p ∷ ms) k m a e = by (lifted-insert ms k m a.1 e) (cmp k p.0)
    where
      by : AreLifted lifted (insert_entry cmp ms k m) → (o : Ordering) → AreLifted lifted (match_ordering o ((k, m) ∷ p ∷ ms) ((p.0, m) ∷ ms) (p ∷ insert_entry cmp ms k m))
      by h Less = (e, (a.0, a.1))
      by h Equal = (e, a.1)
      by h Greater = (a.0, h)

  pub lifted-remove : (ms : List (K × Member E R)) (k : K) → AreLifted lifted ms → AreLifted lifted (remove_entry (is_at (cmp k)) ms)
  lifted-remove [] k a = tt
  lifted-remove (p ∷ ms) k a = by (lifted-remove ms k a.1) (is_at (cmp k) (p.0))
    where
      by : AreLifted lifted (remove_entry (is_at (cmp k)) ms) → (b : Bool) → AreLifted lifted (cond b ms (p ∷ remove_entry (is_at (cmp k)) ms))
      by h true = a.1
      by h false = (a.0, h)

  pub entries-removed : (ms : List (K × Member E R)) (cs : List (K × Option E)) → entries_of (removed cmp ms cs) ≡ removed cmp (entries_of ms) cs
  entries-removed ms [] = refl
  entries-removed ms ((k, None) ∷ cs) = entries-removed (remove_entry (is_at (cmp k)) ms) cs ∙ ap (λ l. removed cmp l cs) (entries-remove ms k)
  entries-removed ms ((k, Some x) ∷ cs) = entries-removed ms cs

  pub entries-inserted : (ms : List (K × Member E R)) (cs : List (K × Option E)) → entries_of (inserted cmp (member_of lifted) ms cs) ≡ inserted cmp (λ e. e) (entries_of ms) cs
  entries-inserted ms [] = refl
  entries-inserted ms ((k, None) ∷ cs) = entries-inserted ms cs
  entries-inserted ms ((k, Some x) ∷ cs) = entries-inserted (insert_entry cmp ms k (member_of lifted x)) cs ∙ ap (λ l. inserted cmp (λ e. e) l cs) (entries-insert ms k (member_of lifted x))

  pub lifted-removed : (ms : List (K × Member E R)) (cs : List (K × Option E)) → AreLifted lifted ms → AreLifted lifted (removed cmp ms cs)
  lifted-removed ms [] a = a
  lifted-removed ms ((k, None) ∷ cs) a = lifted-removed (remove_entry (is_at (cmp k)) ms) cs (lifted-remove ms k a)
  lifted-removed ms ((k, Some x) ∷ cs) a = lifted-removed ms cs a

  pub lifted-inserted : (ms : List (K × Member E R)) (cs : List (K × Option E)) → AreLifted lifted ms → AreLifted lifted (inserted cmp (member_of lifted) ms cs)
  lifted-inserted ms [] a = a
  lifted-inserted ms ((k, None) ∷ cs) a = lifted-inserted ms cs a
  lifted-inserted ms ((k, Some x) ∷ cs) a = lifted-inserted (insert_entry cmp ms k (member_of lifted x)) cs (lifted-insert ms k (member_of lifted x) a refl)

module _ {K E R : Type 0} (lifted : E → R) (none : R) (merged : R → R → R) (unital : (e : E) → merged (lifted e) none ≡ lifted e) where
  -- the rows of members together are the fold of their entries
  pub total_is : (ms : List (K × Member E R)) → AreLifted lifted ms → total_of (λ m. m.row) merged ms ≡ result_of lifted none merged (map (λ e. e.1) (entries_of ms))
  total_is [] a = refl
  total_is (p ∷ []) a = ap Some (a.0 ∙ sym (unital p.1.entry))
  total_is (p ∷ q ∷ ms) a = ap (plus merged (Some p.1.row)) (total_is (q ∷ ms) a.1) ∙ ap (λ r. Some (merged r (fold_of lifted none merged (map (λ e. e.1) (entries_of (q ∷ ms)))))) a.0
