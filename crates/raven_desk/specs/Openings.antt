-- Opening a database from what its keeper holds.
use Rattle.std.specs.Prelude.{◌≡◌, ℕ, ◌≤◌, List, Option, IfSome, Ok, Err}
use Rattle.spec_data.specs.Kept.{KeptRow}
use Rattle.raven_ports.specs.States.{KeeperState}
use Rattle.spec_store.specs.Commit.{Setting}
use Rattle.spec_server.specs.Courses.{Machine}
use Rattle.index_lang.specs.Openings.{IsOpened}
use Rattle.doc_keeper.specs.Loading.{AreCalls}
use Rattle.doc_keeper.specs.declared.loading.LoadFault.{LoadFault}
use Rattle.doc_keeper.specs.declared.loading.LoadFault.TheVariants.{Failed, KeptBad, NoMemory}

-- the database of the rows that the keeper gave, which are all that it holds, if it reports them
pub record Opens (setting : Setting) (held : Option (List KeptRow)) (M : Machine) : Type 0 where
  pub rows : List KeptRow
  pub whole : IfSome held (λ all. all ≡ rows)
  pub opened : IsOpened setting rows (Ok M)

-- the row of this etag is the first invalid one, if the keeper reports its rows
abbrev pub IsBad : Setting → Option (List KeptRow) → ℕ → Type 0
IsBad setting held etag = IfSome held (λ all. IsOpened setting all (Err etag))

-- a bad row is named by its etag
abbrev pub NamesBadRow : Setting → Option (List KeptRow) → LoadFault → Type 0
NamesBadRow setting held (KeptBad etag) = IsBad setting held etag
NamesBadRow setting held Failed = Unit {0}
NamesBadRow setting held NoMemory = Unit {0}

-- a keeper was asked for its rows, and holds what it held
pub record Loads (before after : KeeperState) : Type 0 where
  pub same : after.held ≡ before.held
  pub called : AreCalls before.held before.plan after.plan
  pub later : before.count ≤ after.count
