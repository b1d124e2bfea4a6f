-- What a later store keeps of an earlier one.
use Rattle.std.specs.Prelude.{◌≡◌, ℕ, ◌≤◌, ◌<◌, ◌+◌, List, [], ◌∷◌, Some, false, ◌⊎◌}
use Rattle.spec_data.specs.Rows.{Row, key, is_document}
use Rattle.spec_store.specs.Store.{row_at, Store, last, with_row}

-- the id still has a row: no older, in the same collection, with the same spelling
pub record StillHas (rows : List Row) (q : List ℕ) (old : Row) : Type 0 where
  pub row : Row
  pub found : row_at q rows ≡ Some row
  pub same : row.collection ≡ old.collection
  pub spelled : row.id ≡ old.id
  pub no_older : old.etag ≤ row.etag

-- The tombstone of the id may have been cleaned since: more was cleaned, at least up to the row, which was the tombstone itself, or the tombstone
-- came after all rows of S.
pub record MayBeCleaned (S N : Store) (old : Row) : Type 0 where
  pub more : S.cleaned < N.cleaned
  pub reached : old.etag ≤ N.cleaned
  pub deleted : (is_document old ≡ false) ⊎ (last S < N.cleaned)

-- N is later than S: its rows up to the last etag of S are rows of S, and each id of S still has a row, or its tombstone was cleaned
pub record Later (S N : Store) : Type 0 where
  pub grown : last S ≤ last N
  pub cleaned : S.cleaned ≤ N.cleaned
  pub settled : (q : List ℕ) (r : Row) → row_at q N.rows ≡ Some r → r.etag ≤ last S → row_at q S.rows ≡ Some r
  pub kept : (q : List ℕ) (r : Row) → row_at q S.rows ≡ Some r → StillHas N.rows q r ⊎ MayBeCleaned S N r

-- the row may be written next: it has the next etag, and the collection and the spelling of an earlier row of its id
pub record MayFollow (S : Store) (r : Row) : Type 0 where
  pub next : r.etag ≡ last S + 1
  pub same : (x : Row) → row_at (key r) S.rows ≡ Some x → r.collection ≡ x.collection
  pub spelled : (x : Row) → row_at (key r) S.rows ≡ Some x → r.id ≡ x.id

-- the rows may be written, one after another
abbrev pub MayFollowAll : Store → List Row → Type 0
MayFollowAll S [] = Unit {0}
MayFollowAll S (r ∷ rows) = MayFollow S r × MayFollowAll (with_row S r) rows
