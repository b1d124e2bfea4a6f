-- How a server ends.
use Rattle.std.specs.Prelude.{◌≡◌, ℕ, List, [], ◌∷◌, ◌⊎◌, Bool, true, false, Option, Some, None, MatchBool, length, map}
use Rattle.std.specs.List.{AllZip}
use Rattle.raven_ports.specs.Faults.{Rose}
use Rattle.raven_ports.specs.States.{KeeperState}
use Rattle.doc_keeper.specs.declared.loading.LoadFault.{LoadFault}
use Rattle.doc_keeper.specs.declared.loading.LoadFault.TheVariants as load
use Rattle.spec_server.specs.Options.{setting_with}
use Rattle.spec_desk.specs.Keepers.{Keeps}
use Rattle.spec_desk.specs.Lived.{Follows, Lived, machine_in}
use Rattle.spec_desk.specs.Receipts.{AllLink}
use Rattle.raven_desk.specs.Openings.{IsBad, Loads, Opens}
use Rattle.turn_desk.specs.Seated.{Seated, seated}
use Rattle.serve_ports.specs.Doors.{Doorway}
use Rattle.raven_turn.specs.Passes.{IsOneOf, Knowledge}
use Rattle.raven_serve.specs.Fronts.{IsFront}
use Rattle.raven_serve.specs.Works.{Does, Post, Report, undone}
use Rattle.raven_serve.specs.declared.ends.ServeEnd.{ServeEnd}
use Rattle.raven_serve.specs.declared.ends.ServeEnd.TheVariants.{Done, DoorFault, NoThread, KeptFault, KeptBad, NoMemory}

-- a server: the base id of its database and its name, the one moment of its clock if that stands still, and its keeper and its doors before
pub record Server : Type 0 where
  pub base : List ℕ
  pub name : List ℕ
  pub clock : Option ℕ
  pub keeper : KeeperState
  pub doors : List Doorway

abbrev pub server : List ℕ → List ℕ → Option ℕ → KeeperState → List Doorway → Server
server base name clock keeper doors = record { base = base; name = name; clock = clock; keeper = keeper; doors = doors }

-- The database of the rows that the keeper held was opened, which made this value; each door has a front that is not at its end.
pub record IsOpening (s : Server) (x : Lived) : Type 0 where
  pub opens : Opens (setting_with s.base) s.keeper.held (machine_in x)
  pub loads : Loads s.keeper x.keeper
  pub fronts : x.fronts ≡ length s.doors

-- The keeper is that of y, which follows x, and holds the rows of its store if it reports them.
pub record IsKeeperOf (x y : Lived) (keeper : KeeperState) : Type 0 where
  pub follows : Follows x y
  pub keeper_is : keeper ≡ y.keeper
  pub keeps : Keeps keeper.held (machine_in y)

-- A front served a door from a desk that had seen exactly x, and y follows what it left.
pub record IsServed (s : Server) (x y : Lived) (failed : Bool) (before after : Doorway) : Type 0 where
  pub pass : Knowledge Lived
  pub seen : pass.seen ≡ x ∷ []
  pub pass' : Knowledge Lived
  pub front : IsFront s.clock s.name pass before failed after pass'
  pub later : Follows front.end y

-- the door was found closed, and has not failed
pub record IsClosed (s : Server) (x y : Lived) (before after : Doorway) : Type 0 where
  pub served : IsServed s x y false before after
  pub closed : after.closed ≡ true
  pub faults : after.faults ≡ before.faults

-- a door was served until it was closed, or failed
abbrev pub IsStopped : Server → Lived → Lived → Doorway → Doorway → Type 0
IsStopped s x y before after = (failed : Bool) × IsServed s x y failed before after

-- the count of one of the doors rose
abbrev pub OneRose : List Doorway → List Doorway → Type 0
OneRose [] after = ⊥
OneRose (d ∷ before) [] = ⊥
OneRose (d ∷ before) (e ∷ after) = Rose d.faults e.faults ⊎ OneRose before after

-- each door was served until it was closed or failed, and one of them failed
pub record HaveFailed (s : Server) (x y : Lived) (doors : List Doorway) : Type 0 where
  pub stopped : AllZip (IsStopped s x y) s.doors doors
  pub rose : OneRose s.doors doors

-- The keeper was handed back, with the database of its rows, and this holds of what was opened and of what is left.
abbrev pub HasServed : Server → Option KeeperState → (Lived → Lived → Type 0) → Type 0
HasServed s None P = ⊥
HasServed s (Some keeper) P = (x : Lived) × (y : Lived) × IsOpening s x × IsKeeperOf x y keeper × P x y

-- the database was not opened, for this reason, and the doors are as they were
abbrev pub IsUnopened : Server → Option KeeperState → List Doorway → (KeeperState → Type 0) → Type 0
IsUnopened s None doors P = ⊥
IsUnopened s (Some keeper) doors P = Loads s.keeper keeper × P keeper × (doors ≡ s.doors)

-- Memory ran out. If there were no jobs yet, the keeper was only asked for its rows, and the doors are as they were; else both are lost.
abbrev pub LacksMemory : Server → Option KeeperState → List Doorway → Type 0
LacksMemory s None doors = doors ≡ []
LacksMemory s (Some keeper) doors = Loads s.keeper keeper × (doors ≡ s.doors)

-- What each end says of the keeper and of the doors that are handed back. If no thread could be started, what is left is what was opened.
abbrev pub EndsSo : ServeEnd → Server → Option KeeperState → List Doorway → Type 0
EndsSo Done s keeper doors = HasServed s keeper (λ x y. AllZip (IsClosed s x y) s.doors doors)
EndsSo DoorFault s keeper doors = HasServed s keeper (λ x y. HaveFailed s x y doors)
EndsSo NoThread s keeper doors = HasServed s keeper (λ x y. (y ≡ x) × (doors ≡ s.doors))
EndsSo KeptFault s keeper doors = IsUnopened s keeper doors (λ k. Rose s.keeper.count k.count)
EndsSo (KeptBad etag) s keeper doors = IsUnopened s keeper doors (λ k. IsBad (setting_with s.base) s.keeper.held etag)
EndsSo NoMemory s keeper doors = LacksMemory s keeper doors

-- what came of the jobs: they were handed back, or each was done
abbrev pub Came : Bool → List Post → List Report → Type 0
Came refused jobs outs = MatchBool refused (outs ≡ map undone jobs) (AllZip Does jobs outs)

-- the end of a server whose database was not opened
abbrev pub end_unopened : LoadFault → ServeEnd
end_unopened load.Failed = KeptFault
end_unopened (load.KeptBad etag) = KeptBad etag
end_unopened load.NoMemory = NoMemory

-- and of one whose jobs were refused, or one of whose doors failed
abbrev pub end_of : Bool → Bool → ServeEnd
end_of true failed = NoThread
end_of false true = DoorFault
end_of false false = Done

-- the keeper of a value that follows all of these and is one of them, which holds the rows of its store if it reports them
abbrev pub IsClosing : List Lived → Option KeeperState → Type 0
IsClosing seen None = ⊥
IsClosing seen (Some keeper) = (y : Lived) × AllLink Follows seen y × IsOneOf y seen × (keeper ≡ y.keeper) × Keeps keeper.held (machine_in y)
