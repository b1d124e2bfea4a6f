-- What a change of a map under ids is to the map under folded ids.
use Rattle.std.proofs.Common.{◌≡◌, ℕ, List, true, false, cond, Some, None, map, sym, ap, ◌∙◌}
use Rattle.std.specs.FinMap.{get, insert, remove, get-insert, get-remove}
use Rattle.std.specs.Map.{remove_entry}
use Rattle.std.specs.BTreeMap.{is_at, insert_entry}
use Rattle.std.specs.List.{list_any}
use Rattle.spec_data.specs.Folding.{folded, same_key}
use Rattle.spec_data.specs.Rows.{Row, is_document, key}
use Rattle.spec_data.specs.Tables.{note_row}
use Rattle.spec_store.proofs.TableLemmas.{tied}
use Rattle.paged_map.specs.Pairs.{IsRising}
use Rattle.reference_track.specs.Sets.{id_cmp, is_one_of}
use Rattle.reference_track.specs.Folded.{by_folded}
use Rattle.index_version.specs.Kept.{Given, is_loaded}
use Rattle.reference_track.proofs.FoldedMaps.{by_folded-with, by_folded-without, total}
use Rattle.index_version.proofs.Touching.{one_of_folded}

pub noted_document : (es new : List (List ℕ × Row)) (r : Row) → is_document r ≡ true → new ≡ insert_entry id_cmp es r.id r → by_folded new ≡ note_row (by_folded es) r
noted_document es new r is e =
    ap by_folded e ∙ by_folded-with r.id r es ∙ sym (ap (λ b. cond b (insert (by_folded es) (key r) r) (remove (by_folded es) (key r))) is)

pub noted_tombstone : (es new : List (List ℕ × Row)) (r : Row) → IsRising id_cmp es → is_document r ≡ false → new ≡ remove_entry (is_at (id_cmp r.id)) es → by_folded new ≡ note_row (by_folded es) r
noted_tombstone es new r up is e =
    ap by_folded e ∙ by_folded-without r.id es up ∙ sym (ap (λ b. cond b (insert (by_folded es) (key r) r) (remove (by_folded es) (key r))) is)

pub results_with : {V : Type 0} (es new : List (List ℕ × V)) (k : List ℕ) (v : V) → new ≡ insert_entry id_cmp es k v → (q : List ℕ) → get (by_folded new) q ≡ cond (same_key q (folded k)) (Some v) (get (by_folded es) q)
results_with es new k v e q =
    ap (λ xs. get (by_folded xs) q) e ∙ ap (λ m. get m q) (by_folded-with k v es) ∙ get-insert total (by_folded es) (folded k) v q ∙ ap (λ b. cond b (Some v) (get (by_folded es) q)) (tied q (folded k))

pub results_without : {V : Type 0} (es new : List (List ℕ × V)) (k : List ℕ) → IsRising id_cmp es → new ≡ remove_entry (is_at (id_cmp k)) es → (q : List ℕ) → get (by_folded new) q ≡ cond (same_key q (folded k)) None (get (by_folded es) q)
results_without es new k up e q =
    ap (λ xs. get (by_folded xs) q) e ∙ ap (λ m. get m q) (by_folded-without k es up) ∙ get-remove total (by_folded es) (folded k) q ∙ ap (λ b. cond b None (get (by_folded es) q)) (tied q (folded k))

-- what is among the loads as they were spelled is loaded
pub loaded_is : (y : List ℕ) (loads : List (List ℕ)) (g : Given) → map folded loads ≡ g.mapped.loads → is_one_of y loads ≡ is_loaded (folded y) (Some g)
loaded_is y loads g e = one_of_folded y loads ∙ ap (list_any (same_key (folded y))) e
