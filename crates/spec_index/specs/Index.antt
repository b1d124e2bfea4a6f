-- What an index has recorded, and the etag that it has after a batch.
use Rattle.std.specs.Prelude.{◌≡◌, ℕ, ◌≤◌, List, [], ◌∷◌, ◌&&◌, Option, Some, None, filter, if◌then◌else◌, IsTrue}
use Rattle.std.specs.FinMap.{empty, get}
use Rattle.spec_data.specs.Rows.{Row, key, is_document}
use Rattle.spec_store.specs.Store.{row_at, Store, last, last_of}
use Rattle.spec_store.specs.Later.{StillHas}
use Rattle.spec_data.specs.Tables.{Table, Scope, in_scope, note_rows}
use Rattle.spec_store.specs.Stale.{batch_rows, left_over}

-- what an index that has seen the row records of it: the document, if it is in scope; nothing of a tombstone
abbrev pub record_of : Scope → Row → Option Row
record_of scope r = if in_scope scope r && is_document r then Some r else None

-- the table agrees with the store on all rows up to the etag; of an id that was written later it may have an older document
pub record Agrees (scope : Scope) (T : Table) (S : Store) (e : ℕ) : Type 0 where
  pub known : (q : List ℕ) (t : Row) → get T q ≡ Some t → StillHas S.rows q t
  pub exact : (q : List ℕ) (r : Row) → row_at q S.rows ≡ Some r → r.etag ≤ e → get T q ≡ record_of scope r
  pub filed : (q : List ℕ) (t : Row) → get T q ≡ Some t → (q ≡ key t) × IsTrue (is_document t)
  pub scoped : (q : List ℕ) (t : Row) → get T q ≡ Some t → IsTrue (in_scope scope t)
  pub dated : (q : List ℕ) (t : Row) → get T q ≡ Some t → (1 ≤ t.etag) × (t.etag ≤ e)

-- the etag of the last taken row if more remain, else the last of the store
abbrev pub etag_after : ℕ → List Row → List Row → ℕ → ℕ
etag_after e rows [] last = last
etag_after e rows (r ∷ rest) last = last_of e rows

abbrev pub etag_of_batch : Scope → ℕ → Store → ℕ → ℕ
etag_of_batch scope e S max = etag_after e (batch_rows scope e S max) (left_over scope e S max) (last S)

-- the documents of the store in scope, as a table
abbrev pub documents : Scope → Store → Table
documents scope S = note_rows empty (filter (in_scope scope) S.rows)
