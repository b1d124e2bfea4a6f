-- A batch of a store's rows leaves no document in another collection.
use Rattle.std.proofs.Common.{◌≡◌, ◌∙◌, ℕ, List, Some, take, drop, sym, ap}
use Rattle.std.specs.Option.{option_or}
use Rattle.std.specs.Str.{bytes_eq}
use Rattle.std.proofs.lemmas.List.{take-append-drop}
use Rattle.spec_data.specs.Rows.{Row}
use Rattle.spec_store.specs.Store.{IsStore, Store, row_at}
use Rattle.spec_store.specs.Stale.{batch_rows, past}
use Rattle.spec_store.proofs.StoreLemmas.{found_passing, row_at-append}
use Rattle.index_tree.specs.Mapper.{mapper_of}
use Rattle.spec_index.specs.Index.{Agrees}
use Rattle.spec_index.specs.World.{Version, reads}
use Rattle.index_version.specs.Reduced.{KeepCollections}

found_first : (q : List ℕ) (n : ℕ) (rows : List Row) (r : Row) → row_at q (take n rows) ≡ Some r → row_at q rows ≡ Some r
found_first q n rows r h = ap (row_at q) (sym (take-append-drop n rows)) ∙ row_at-append q (take n rows) (drop n rows) ∙ ap (λ o. option_or o (row_at q (drop n rows))) h

one_row : {r s : Row} → Some r ≡ Some s → r ≡ s
one_row e = cc

pub keeps_collections : (v : Version) (S : Store) (max : ℕ) → IsStore S → Agrees (reads v) v.table S v.etag → KeepCollections (mapper_of v.definition) v.table (batch_rows (reads v) v.etag S max)
keeps_collections v S max store agrees q r t taken recorded =
    let still = agrees.known q t recorded in
    let here = (found_passing _ q S.rows r store.apart (found_first q max (past (reads v) v.etag S) r taken)).0 in
    let same = one_row (sym still.found ∙ here) in
    ap (λ (c : List ℕ). bytes_eq c (mapper_of v.definition).collection) (sym still.same ∙ ap (λ (x : Row). x.collection) same)
