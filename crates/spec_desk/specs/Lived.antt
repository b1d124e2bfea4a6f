-- The value on which requests are answered, what a look takes away of it, and which of two is later.
use Rattle.std.specs.Prelude.{ℕ, ◌≤◌, List}
use Rattle.raven_ports.specs.States.{KeeperState}
use Rattle.spec_index.specs.World.{World}
use Rattle.spec_server.specs.Courses.{Held, Machine}
use Rattle.spec_server.specs.Machine.{machine_of}
use Rattle.spec_server.specs.Sound.{LaterW}
use Rattle.spec_store.specs.Store.{last}

-- the world, what is known of its keeper, and how many fronts are not at their end
pub record Lived : Type 0 where
  pub world : World
  pub keeper : KeeperState
  pub fronts : ℕ

abbrev pub lived : World → KeeperState → ℕ → Lived
lived W keeper fronts = record { world = W; keeper = keeper; fronts = fronts }

-- its machine, of which no worker holds anything
abbrev pub machine_in : Lived → Machine
machine_in x = machine_of x.world

-- and that of which workers hold these batches
abbrev pub machine_with : Lived → List Held → Machine
machine_with x held = record { world = x.world; held = held }

-- the etag of the last row
abbrev pub etags : Lived → ℕ
etags x = last x.world.store

-- y is what x may have become
pub record Follows (x y : Lived) : Type 0 where
  pub world : LaterW x.world y.world
  pub fronts : y.fronts ≤ x.fronts
  pub faults : x.keeper.count ≤ y.keeper.count

-- what a look takes away: the world, the fronts that are not at their end, and how often the keeper has failed
pub record Seen : Type 0 where
  pub world : World
  pub fronts : ℕ
  pub faults : ℕ

abbrev pub seen_of : Lived → Seen
seen_of x = record { world = x.world; fronts = x.fronts; faults = x.keeper.count }
