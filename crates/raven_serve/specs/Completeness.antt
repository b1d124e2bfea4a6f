-- Servers that come to their end if no device fails and there is memory.
use Rattle.std.specs.Prelude.{◌≡◌, List, Option, Some, Ok}
use Rattle.spec_data.specs.Kept.{KeptRow}
use Rattle.raven_ports.specs.Faults.{Rose}
use Rattle.raven_ports.specs.States.{KeeperState}
use Rattle.index_lang.specs.Openings.{IsOpened}
use Rattle.spec_server.specs.Courses.{Machine}
use Rattle.spec_server.specs.Options.{setting_with}
use Rattle.serve_ports.specs.Doors.{Doorway}
use Rattle.raven_serve.specs.Finishing.{OneRose, Server}
use Rattle.raven_serve.specs.declared.ends.ServeEnd.{ServeEnd}
use Rattle.raven_serve.specs.declared.ends.ServeEnd.TheVariants.{Done, KeptBad, KeptFault, NoMemory}

-- the stored rows open, and the keeper reports them
pub record IsValid (s : Server) : Type 0 where
  pub rows : List KeptRow
  pub kept : s.keeper.held ≡ Some rows
  pub machine : Machine
  pub opens : IsOpened (setting_with s.base) rows (Ok machine)

-- the database was not opened: the keeper is as it was left by that
abbrev pub IsNotOpened : ServeEnd → Type 0
IsNotOpened KeptFault = Unit {0}
IsNotOpened (KeptBad etag) = Unit {0}
IsNotOpened other = ⊥

-- no count of the doors rose, and the keeper's did not while the database was opened
pub record HasNoFault (end : ServeEnd) (s : Server) (keeper : Option KeeperState) (doors : List Doorway) : Type 0 where
  pub keeper_none : IsNotOpened end → (k : KeeperState) → keeper ≡ Some k → ¬ Rose s.keeper.count k.count
  pub doors_none : ¬ OneRose s.doors doors

-- each door is closed, or memory ran out
abbrev pub IsFinished : ServeEnd → Type 0
IsFinished Done = Unit {0}
IsFinished NoMemory = Unit {0}
IsFinished other = ⊥
