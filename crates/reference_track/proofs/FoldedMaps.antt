-- How the maps under ids are the maps under folded ids.
use Rattle.std.proofs.Common.{◌≡◌, ℕ, List, [], ◌∷◌, true, false, cond, Some, None, length, refl, sym, ap, ◌∙◌, arith}
use Rattle.std.specs.declared.cmp.Ordering.TheVariants.{Less, Equal, Greater}
use Rattle.std.specs.Ordering.{match_ordering, is_eq}
use Rattle.std.specs.Cmp.{IsTotalOrder}
use Rattle.std.specs.Cmp.Lexicographic.{nat_list_cmp_total}
use Rattle.std.specs.FinMap.{FinMap, get, entries, values, insert, remove, from_entries, find as entry_at, put as put_entry, get-from_entries, get-insert, get-remove, entries-insert, len-entries, len-empty, same_map, nat_cmp-IsAntisymmetric, slice_cmp-IsAntisymmetric}
use Rattle.std.specs.Map.{lookup, remove_entry, values_of}
use Rattle.std.specs.BTreeMap.{is_at, insert_entry}
use Rattle.spec_data.specs.Folding.{folded, key_cmp}
use Rattle.paged_map.specs.Pairs.{AllAnswer, IsRising}
use Rattle.paged_map.proofs.Laws.{lookup-insert_entry, lookup-remove_entry}
use Rattle.reference_track.specs.Sets.{id_cmp}
use Rattle.reference_track.specs.Folded.{folded_entries, by_folded}

pub total : IsTotalOrder key_cmp
total = nat_list_cmp_total

pub same_results : {V : Type 0} (G H : FinMap key_cmp V) → ((q : List ℕ) → get G q ≡ get H q) → G ≡ H
same_results = same_map total (slice_cmp-IsAntisymmetric nat_cmp-IsAntisymmetric)

module _ {V : Type 0} where
  folded-insert : (k : List ℕ) (v : V) (es : List (List ℕ × V)) → folded_entries (insert_entry id_cmp es k v) ≡ insert_entry key_cmp (folded_entries es) (folded k) v
  folded-insert k v [] = refl
  folded-insert k v (e ∷ es) =
      elim (key_cmp (folded k) (folded e.0)) as (λ r. folded_entries (match_ordering r ((k, v) ∷ e ∷ es) ((e.0, v) ∷ es) (e ∷ insert_entry id_cmp es k v)) ≡ match_ordering r ((folded k, v) ∷ folded_entries (e ∷ es)) ((folded e.0, v) ∷ folded_entries es) ((folded e.0, e.1) ∷ insert_entry key_cmp (folded_entries es) (folded k) v)) [
        | Less ↦ refl
        | Equal ↦ refl
        | Greater ↦ ap (λ more. (folded e.0, e.1) ∷ more) (folded-insert k v es)
      ]

  folded-remove : (k : List ℕ) (es : List (List ℕ × V)) → folded_entries (remove_entry (is_at (id_cmp k)) es) ≡ remove_entry (is_at (key_cmp (folded k))) (folded_entries es)
  folded-remove k [] = refl
  folded-remove k (e ∷ es) =
      elim (is_eq (key_cmp (folded k) (folded e.0))) as (λ b. folded_entries (cond b es (e ∷ remove_entry (is_at (id_cmp k)) es)) ≡ cond b (folded_entries es) ((folded e.0, e.1) ∷ remove_entry (is_at (key_cmp (folded k))) (folded_entries es))) [
        | true ↦ refl
        | false ↦ ap (λ more. (folded e.0, e.1) ∷ more) (folded-remove k es)
      ]

  folded-answer : (k : List ℕ) (es : List (List ℕ × V)) → AllAnswer id_cmp k Less es → AllAnswer key_cmp (folded k) Less (folded_entries es)
  folded-answer k [] a = tt
  folded-answer k (e ∷ es) a = (a.0, folded-answer k es a.1)

  pub folded-rising : (es : List (List ℕ × V)) → IsRising id_cmp es → IsRising key_cmp (folded_entries es)
  folded-rising [] up = tt
  folded-rising (e ∷ es) up = (folded-answer e.0 es up.0, folded-rising es up.1)

  pub found : (q : List ℕ) (es : List (List ℕ × V)) → entry_at key_cmp q es ≡ lookup (is_at (key_cmp q)) es
  found q [] = refl
  found q (e ∷ es) = ap (cond (is_eq (key_cmp q e.0)) (Some e.1)) (found q es)

  get-entries_of : (q : List ℕ) (es : List (List ℕ × V)) → get (by_folded es) q ≡ lookup (is_at (key_cmp q)) (folded_entries es)
  get-entries_of q es = get-from_entries total (folded_entries es) q ∙ found q (folded_entries es)

  lookup_folded : (k : List ℕ) (es : List (List ℕ × V)) → lookup (is_at (key_cmp (folded k))) (folded_entries es) ≡ lookup (is_at (id_cmp k)) es
  lookup_folded k [] = refl
  lookup_folded k (e ∷ es) = ap (cond (is_eq (key_cmp (folded k) (folded e.0))) (Some e.1)) (lookup_folded k es)

  pub get-by_folded : (k : List ℕ) (es : List (List ℕ × V)) → get (by_folded es) (folded k) ≡ lookup (is_at (id_cmp k)) es
  get-by_folded k es = get-entries_of (folded k) es ∙ lookup_folded k es

  pub by_folded-with : (k : List ℕ) (v : V) (es : List (List ℕ × V)) → by_folded (insert_entry id_cmp es k v) ≡ insert (by_folded es) (folded k) v
  by_folded-with k v es = same_results (by_folded (insert_entry id_cmp es k v)) (insert (by_folded es) (folded k) v) (λ q.
      get-entries_of q (insert_entry id_cmp es k v)
      ∙ ap (lookup (is_at (key_cmp q))) (folded-insert k v es)
      ∙ lookup-insert_entry key_cmp total q (folded k) v (folded_entries es)
      ∙ ap (cond (is_eq (key_cmp q (folded k))) (Some v)) (sym (get-entries_of q es))
      ∙ sym (get-insert total (by_folded es) (folded k) v q))

  pub by_folded-without : (k : List ℕ) (es : List (List ℕ × V)) → IsRising id_cmp es → by_folded (remove_entry (is_at (id_cmp k)) es) ≡ remove (by_folded es) (folded k)
  by_folded-without k es up = same_results (by_folded (remove_entry (is_at (id_cmp k)) es)) (remove (by_folded es) (folded k)) (λ q.
      get-entries_of q (remove_entry (is_at (id_cmp k)) es)
      ∙ ap (lookup (is_at (key_cmp q))) (folded-remove k es)
      ∙ lookup-remove_entry key_cmp total q (folded k) (folded_entries es) (folded-rising es up)
      ∙ ap (cond (is_eq (key_cmp q (folded k))) None) (sym (get-entries_of q es))
      ∙ sym (get-remove total (by_folded es) (folded k) q))

  -- IN ORDER

  none_long : (es : List (List ℕ × V)) → length es ≡ 0 → es ≡ []
  none_long [] h = refl
  none_long (e ∷ es) h = absurd (omega arith)

  put_first : (k : List ℕ) (v : V) (es : List (List ℕ × V)) → AllAnswer key_cmp k Less es → put_entry key_cmp k v es ≡ (k, v) ∷ es
  put_first k v [] a = refl
  put_first k v (e ∷ es) a = rw a.0 refl

  pub entries-rising : (es : List (List ℕ × V)) → IsRising key_cmp es → entries (from_entries {R = key_cmp} es) ≡ es
  entries-rising [] up = none_long (entries (from_entries {R = key_cmp} [])) (sym (len-entries (from_entries {R = key_cmp} [])) ∙ len-empty key_cmp V)
  entries-rising (e ∷ es) up =
      entries-insert total (from_entries es) e.0 e.1 ∙ ap (put_entry key_cmp e.0 e.1) (entries-rising es up.1) ∙ put_first e.0 e.1 es up.0

  values_folded : (es : List (List ℕ × V)) → values_of (folded_entries es) ≡ values_of es
  values_folded [] = refl
  values_folded (e ∷ es) = ap (λ more. e.1 ∷ more) (values_folded es)

  -- what is kept under ids is walked in the order of the folded ids
  pub values-by_folded : (es : List (List ℕ × V)) → IsRising id_cmp es → values (by_folded es) ≡ values_of es
  values-by_folded es up = ap values_of (entries-rising (folded_entries es) (folded-rising es up)) ∙ values_folded es
