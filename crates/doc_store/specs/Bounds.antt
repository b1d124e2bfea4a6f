-- How large a store may grow, and what holds of its rows.
use Rattle.std.specs.Prelude.{◌≤◌, ◌<◌, ◌^◌, ◌-◌, ℕ, List, length}
use Rattle.spec_data.specs.Limits.{max_etag}
use Rattle.spec_data.specs.Rows.{Row}
use Rattle.spec_store.specs.Store.{AreApart, AreRising, Store, TombstonesPast, last_of}

-- so many rows, with such etags, a store may have
pub record AreWithin (all : List Row) : Type 0 where
  pub etags : last_of 0 all ≤ max_etag
  pub rows : length all < 2 ^ 32

abbrev pub IsWithin : Store → Type 0
IsWithin S = AreWithin S.rows

-- rows in order of etag, of which no two have the same id
pub record AreRows (rows : List Row) : Type 0 where
  pub rising : AreRising 0 rows
  pub apart : AreApart rows

-- the rows of a store of that size
pub record AreKept (rows : List Row) : Type 0 where
  pub store : AreRows rows
  pub within : AreWithin rows

-- the rows of a store that was cleaned up to this etag: it is 0 or below the last, and each tombstone is past it
pub record AreCleaned (cleaned : ℕ) (rows : List Row) : Type 0 where
  pub behind : cleaned ≤ last_of 0 rows - 1
  pub past : TombstonesPast cleaned rows
