-- The documents of a collection in the order of their ids are as many as in the order of their etags.
use Rattle.std.proofs.Common.{◌≡◌, ◌+◌, List, [], ◌∷◌, Bool, cond, is_some, filter, length, sym, ap, ◌∙◌, arith}
use Rattle.std.specs.Cmp.Lexicographic.{nat_list_cmp_total}
use Rattle.std.specs.FinMap.{entries, values, len, len-entries, len-empty, len-insert}
use Rattle.std.proofs.lemmas.List.{length-map}
use Rattle.spec_data.specs.Folding.{key_cmp}
use Rattle.spec_data.specs.Rows.{Row, key}
use Rattle.spec_data.specs.Tables.{table_of}
use Rattle.spec_store.specs.Store.{AreApart, IsStore, Store}
use Rattle.spec_store.proofs.StoreLemmas.{AreApart-filter}
use Rattle.spec_store.proofs.KeyedLemmas.{get-table_of}

len_of : (rows : List Row) → AreApart rows → len (table_of rows) ≡ length rows
len_of [] apart = len-empty key_cmp Row
len_of (r ∷ rows) apart =
    let rest = len_of rows apart.1 in
    let more : len (table_of (r ∷ rows)) ≡ len (table_of rows) + 1 =
    len-insert nat_list_cmp_total (table_of rows) (key r) r ∙ ap (λ o. cond (is_some o) (len (table_of rows)) (len (table_of rows) + 1)) (get-table_of (key r) rows ∙ apart.0) in
    omega arith

pub as_many : (p : Row → Bool) (S : Store) → IsStore S → length (filter p S.rows) ≡ length (values (table_of (filter p S.rows)))
as_many p S s =
    let found = filter p S.rows in
    sym (length-map (entries (table_of found)) (λ e. e.1) ∙ (sym (len-entries (table_of found)) ∙ len_of found (AreApart-filter p S.rows s.apart)))
