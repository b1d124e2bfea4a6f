-- What a table has under an id.
use Rattle.std.proofs.Common.{◌≡◌, ℕ, List, true, false, cond, Some, None, ap, ◌∙◌}
use Rattle.std.specs.Ordering.{eq_by_cmp}
use Rattle.std.proofs.lemmas.Map.Text.{is_eq-slice_cmp}
use Rattle.std.specs.Cmp.Lexicographic.{nat_list_cmp_total}
use Rattle.std.specs.FinMap.{get, insert, remove, get-insert, get-remove}
use Rattle.spec_data.specs.Folding.{key_cmp, same_key}
use Rattle.spec_data.specs.Rows.{Row, key, is_document}
use Rattle.spec_data.specs.Tables.{Table, note_row}

-- two keys compare as equal in a table exactly if they are the same
pub tied : (q k : List ℕ) → eq_by_cmp key_cmp q k ≡ same_key q k
tied = is_eq-slice_cmp

pub get-note_row : (T : Table) (r : Row) (q : List ℕ) → get (note_row T r) q ≡ cond (same_key q (key r)) (cond (is_document r) (Some r) None) (get T q)
get-note_row T r q =
    elim (is_document r) as (λ b. get (cond b (insert T (key r) r) (remove T (key r))) q ≡ cond (same_key q (key r)) (cond b (Some r) None) (get T q)) [
      | true ↦ get-insert nat_list_cmp_total T (key r) r q ∙ ap (λ b. cond b (Some r) (get T q)) (tied q (key r))
      | false ↦ get-remove nat_list_cmp_total T (key r) q ∙ ap (λ b. cond b None (get T q)) (tied q (key r))
    ]
