-- The rows of groups are those of the entries by themselves.
use Rattle.std.proofs.Common.{◌≡◌, ℕ, suc, ◌<◌, ◌^◌, Bool, true, false, cond, ◌&&◌, ◌||◌, Option, Some, None, List, [], ◌∷◌, ◌++◌, filter, length, map, option_map, slice_get, refl, sym, ap, subst, ◌∙◌, arith, append_assoc}
use lib.Dec.{T}
use Rattle.std.specs.declared.cmp.Ordering.{Ordering}
use Rattle.std.specs.declared.cmp.Ordering.TheVariants.{Less, Equal, Greater}
use Rattle.std.specs.Ordering.{is_eq, is_lt}
use Rattle.std.specs.Cmp.{IsTotalOrder}
use Rattle.std.specs.FinMap.{IsAntisymmetric, entries, entries_sorted, find, get-entries, get-from_entries, is_sorted}
use Rattle.std.specs.FinMap.Entries.{below_all, same_entries}
use Rattle.std.specs.List.{cons_option, list_any}
use Rattle.std.specs.Map.{lookup}
use Rattle.std.specs.BTreeMap.{is_at}
use Rattle.paged_map.specs.Pairs.{AllAnswer, IsRising}
use Rattle.reduce_tree.specs.Folding.{fold_of, result_of}
use Rattle.reduce_tree.specs.Tree.{Tree}
use Rattle.reduce_groups.specs.Groups.{AreSound, entries_at, entries_of_tree, row_in, rows_in}
use Rattle.reduce_groups.specs.Grouping.{AreGrouped, folded_at, rows_of}

both : (a b : Bool) → T a → T b → T (a && b)
both true b x y = y
both false b x y = x

is_less : (r : Ordering) → r ≡ Less → T (is_lt r)
is_less r e = subst (λ x. T (is_lt x)) (sym e) tt

abbrev values : {K E : Type 0} → List (K × E) → List E
values es = map (λ e. e.1) es

-- one tree after another
module _ {F G K E R : Type 0} (lifted : F → E → R) (none : F → R) (merged : R → R → R) (rows : List (G × R)) (t : G × Tree F K E) (ts left : List (G × Tree F K E)) (is : left ≡ t ∷ ts) where
  abbrev tree_rows : Option R → List (G × R)
  tree_rows o = cons_option (option_map (λ row. (t.0, row)) o) (rows_in lifted none merged ts)

  pub one_row_more : (k : G) (r row : R) → k ≡ t.0 → r ≡ row → Some row ≡ result_of (lifted t.1.fold) (none t.1.fold) merged (values t.1.entries) → (rows ++ (k, r) ∷ []) ++ rows_in lifted none merged ts ≡ rows ++ rows_in lifted none merged left
  one_row_more k r row e f o =
      append_assoc rows ((k, r) ∷ []) (rows_in lifted none merged ts) ∙ ap (λ x. rows ++ (x, r) ∷ rows_in lifted none merged ts) e ∙ ap (λ x. rows ++ (t.0, x) ∷ rows_in lifted none merged ts) f
      ∙ ap (λ x. rows ++ tree_rows x) o ∙ ap (λ l. rows ++ rows_in lifted none merged l) (sym is)

  pub no_row_more : None ≡ result_of (lifted t.1.fold) (none t.1.fold) merged (values t.1.entries) → rows ++ rows_in lifted none merged ts ≡ rows ++ rows_in lifted none merged left
  no_row_more o = ap (λ x. rows ++ tree_rows x) o ∙ ap (λ l. rows ++ rows_in lifted none merged l) (sym is)

-- to a place, one tree after another
module _ {F G K E R : Type 0} (lifted : F → E → R) (none : F → R) (merged : R → R → R) (t : G × Tree F K E) (ts left : List (G × Tree F K E)) (is : left ≡ t ∷ ts) where
  abbrev found_rows : Option R → List (G × R)
  found_rows o = cons_option (option_map (λ row. (t.0, row)) o) (rows_in lifted none merged ts)

  pub here : (place : ℕ) (r : R) → place ≡ 0 → Some r ≡ result_of (lifted t.1.fold) (none t.1.fold) merged (values t.1.entries) → Some (t.0, r) ≡ slice_get (rows_in lifted none merged left) place
  here place r e o = ap (slice_get (found_rows (Some r))) (sym e) ∙ ap (λ x. slice_get (found_rows x) place) o ∙ ap (λ l. slice_get (rows_in lifted none merged l) place) (sym is)

  pub later : (place next : ℕ) (r : R) → place ≡ suc next → Some r ≡ result_of (lifted t.1.fold) (none t.1.fold) merged (values t.1.entries) → slice_get (rows_in lifted none merged ts) next ≡ slice_get (rows_in lifted none merged left) place
  later place next r e o = ap (slice_get (found_rows (Some r))) (sym e) ∙ ap (λ x. slice_get (found_rows x) place) o ∙ ap (λ l. slice_get (rows_in lifted none merged l) place) (sym is)

  pub without_row : (place : ℕ) → None ≡ result_of (lifted t.1.fold) (none t.1.fold) merged (values t.1.entries) → slice_get (rows_in lifted none merged ts) place ≡ slice_get (rows_in lifted none merged left) place
  without_row place o = ap (λ x. slice_get (found_rows x) place) o ∙ ap (λ l. slice_get (rows_in lifted none merged l) place) (sym is)

-- no group has more entries than can be counted
pub few_at : {F G K E : Type 0} (cmp : G → G → Ordering) (f : F) (q : G) (ts : List (G × Tree F K E)) → AreSound f ts → length (entries_at cmp q ts) < 2 ^ 64
few_at cmp f q [] s = omega arith
few_at cmp f q (t ∷ ts) s = by (is_eq (cmp q t.0)) (few_at cmp f q ts s.1)
  where
    by : (b : Bool) → length (entries_at cmp q ts) < 2 ^ 64 → length (entries_of_tree (cond b (Some t.1) (lookup (is_at (cmp q)) ts))) < 2 ^ 64
    by true h = s.0.3
    by false h = h

abbrev folded : {F E R : Type 0} → (F → E → R) → (F → R) → (R → R → R) → F → List E → R
folded lifted none merged f es = fold_of (lifted f) (none f) merged es

module _ {F G K E R : Type 0} (cmp : G → G → Ordering) (lifted : F → E → R) (none : F → R) (merged : R → R → R) (f : F) where
  -- the row of a tree that has entries
  abbrev row : G × Tree F K E → G × R
  row t = (t.0, folded lifted none merged f (values t.1.entries))

  some_row : (es : List (K × E)) → 0 < length es → result_of (lifted f) (none f) merged (values es) ≡ Some (folded lifted none merged f (values es))
  some_row [] l = absurd (omega (arith, l))
  some_row (e ∷ es) l = refl

  in_tree : (t : G × Tree F K E) → t.1.fold ≡ f → 0 < length t.1.entries → row_in lifted none merged t ≡ Some (row t)
  in_tree t e l = ap (λ g. option_map (λ r. (t.0, r)) (result_of (lifted g) (none g) merged (values t.1.entries))) e ∙ ap (option_map (λ r. (t.0, r))) (some_row t.1.entries l)

  all_rows : (ts : List (G × Tree F K E)) → AreSound f ts → rows_in lifted none merged ts ≡ map row ts
  all_rows [] s = refl
  all_rows (t ∷ ts) s = ap (λ o. cons_option o (rows_in lifted none merged ts)) (in_tree t s.0.0 s.0.1) ∙ ap (λ l. row t ∷ l) (all_rows ts s.1)

  long : (ts : List (G × Tree F K E)) → length (map row ts) ≡ length ts
  long [] = refl
  long (t ∷ ts) = ap suc (long ts)

  -- each tree gives a row
  pub rows_long : (ts : List (G × Tree F K E)) → AreSound f ts → length (rows_in lifted none merged ts) ≡ length ts
  rows_long ts s = ap length (all_rows ts s) ∙ long ts

  below : (k : G) (ts : List (G × Tree F K E)) → AllAnswer cmp k Less ts → T (below_all cmp k (map row ts))
  below k [] a = tt
  below k (t ∷ ts) a = both (is_lt (cmp k t.0)) (below_all cmp k (map row ts)) (is_less (cmp k t.0) a.0) (below k ts a.1)

  sorted : (ts : List (G × Tree F K E)) → IsRising cmp ts → T (is_sorted cmp (map row ts))
  sorted [] s = tt
  sorted (t ∷ ts) s = both (below_all cmp t.0 (map row ts)) (is_sorted cmp (map row ts)) (below t.0 ts s.0) (sorted ts s.1)

  found_in_trees : (q : G) (ts : List (G × Tree F K E)) → AreSound f ts → find cmp q (map row ts) ≡ result_of (lifted f) (none f) merged (values (entries_at cmp q ts))
  found_in_trees q [] s = refl
  found_in_trees q (t ∷ ts) s = by (is_eq (cmp q t.0)) (found_in_trees q ts s.1)
    where
      by : (b : Bool) → find cmp q (map row ts) ≡ result_of (lifted f) (none f) merged (values (entries_at cmp q ts)) →
          cond b (Some (folded lifted none merged f (values t.1.entries))) (find cmp q (map row ts)) ≡ result_of (lifted f) (none f) merged (values (entries_of_tree (cond b (Some t.1) (lookup (is_at (cmp q)) ts))))
      by true h = sym (some_row t.1.entries s.0.1)
      by false h = h

  module _ (ties : IsAntisymmetric cmp) (key : E → G) where
    found_in_list : (at : G → R) (q : G) (es : List (K × E)) → find cmp q (map (λ e. (key e.1, at (key e.1))) es) ≡ cond (list_any (λ e. is_eq (cmp q (key e.1))) es) (Some (at q)) None
    found_in_list at q [] = refl
    found_in_list at q (e ∷ es) = by (cmp q (key e.1)) refl (found_in_list at q es)
      where
        by : (r : Ordering) → cmp q (key e.1) ≡ r → find cmp q (map (λ e. (key e.1, at (key e.1))) es) ≡ cond (list_any (λ e. is_eq (cmp q (key e.1))) es) (Some (at q)) None →
            cond (is_eq r) (Some (at (key e.1))) (find cmp q (map (λ e. (key e.1, at (key e.1))) es)) ≡ cond (is_eq r || list_any (λ e. is_eq (cmp q (key e.1))) es) (Some (at q)) None
        by Less t h = h
        by Equal t h = ap (λ k. Some (at k)) (sym (ties q (key e.1) t))
        by Greater t h = h

    some_if_any : (p : K × E → Bool) (es : List (K × E)) → cond (list_any p es) (Some (folded lifted none merged f (values (filter p es)))) None ≡ result_of (lifted f) (none f) merged (values (filter p es))
    some_if_any p [] = refl
    some_if_any p (e ∷ es) = by (p e) (some_if_any p es)
      where
        by : (b : Bool) → cond (list_any p es) (Some (folded lifted none merged f (values (filter p es)))) None ≡ result_of (lifted f) (none f) merged (values (filter p es)) →
            cond (b || list_any p es) (Some (folded lifted none merged f (values (cond b (e ∷ filter p es) (filter p es))))) None ≡ result_of (lifted f) (none f) merged (values (cond b (e ∷ filter p es) (filter p es)))
        by true h = refl
        by false h = h

    pub rows_are_of : IsTotalOrder cmp → (es : List (K × E)) (ts : List (G × Tree F K E)) → IsRising cmp ts → AreSound f ts → AreGrouped cmp key es ts → rows_in lifted none merged ts ≡ entries (rows_of cmp key (folded lifted none merged f) es)
    rows_are_of o es ts rising sound grouped =
        all_rows ts sound ∙ same_entries cmp o ties (map row ts) (entries (rows_of cmp key (folded lifted none merged f) es)) (sorted ts rising) (entries_sorted (rows_of cmp key (folded lifted none merged f) es)) same
      where
        same : (q : G) → find cmp q (map row ts) ≡ find cmp q (entries (rows_of cmp key (folded lifted none merged f) es))
        same q =
            found_in_trees q ts sound ∙ ap (λ l. result_of (lifted f) (none f) merged (values l)) (grouped q) ∙ sym (some_if_any (λ e. is_eq (cmp q (key e.1))) es)
            ∙ sym (found_in_list (folded_at cmp key (folded lifted none merged f) es) q es) ∙ sym (get-from_entries o _ q) ∙ get-entries _ q
