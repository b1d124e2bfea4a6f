-- A row that goes into a store.
use Rattle.std.specs.Prelude.{◌≡◌, ◌<◌, Some}
use Rattle.spec_data.specs.Rows.{Row, key}
use Rattle.spec_store.specs.Store.{Store, last, row_at}

-- the row is the newest, and of the collection of an earlier row of its id
pub record MayStand (S : Store) (r : Row) : Type 0 where
  pub newer : last S < r.etag
  pub same : (x : Row) → row_at (key r) S.rows ≡ Some x → x.collection ≡ r.collection
