-- One request, answered on one value.
use Rattle.std.specs.Prelude.{◌≡◌, ◌≢◌, ℕ, List, [], ◌∷◌, ◌++◌, Bool, true, if◌then◌else◌, Option}
use Rattle.spec_data.specs.Kept.{KeptRow}
use Rattle.raven_ports.specs.Asking.{Asked}
use Rattle.raven_ports.specs.States.{KeeperState}
use Rattle.spec_index.specs.World.{World}
use Rattle.spec_server.specs.Requests.{Do, Request}
use Rattle.spec_server.specs.Courses.{Change, is_taken, made, takes_after}
use Rattle.spec_server.specs.Machine.{step}
use Rattle.spec_server.specs.Replies.{KeeperFault, Reply}
use Rattle.spec_server.specs.Sound.{Has, LaterW, Sound}
use Rattle.raven_laws.specs.Keeping.{AreTheirRows}
use Rattle.spec_desk.specs.Keepers.{IsKept, MayGive, keeping, tasks_of, tasks_on}
use Rattle.spec_desk.specs.Lived.{Lived, machine_in}

-- The request was answered on x, and y is left: the keeper was asked for each change, and the reply and the world are those of the
-- machine, given what the keeper did.
pub record IsStep (now : ℕ) (q : Request) (x : Lived) (reply : Reply) (y : Lived) : Type 0 where
  pub takes : List Bool
  pub asked : Asked x.keeper y.keeper takes (tasks_on (machine_in x) now (Do q))
  pub reply_is : reply ≡ (step (machine_in x) (keeping takes x.keeper y.keeper) now (Do q)).reply
  pub machine : machine_in y ≡ (step (machine_in x) (keeping takes x.keeper y.keeper) now (Do q)).machine
  pub fronts : y.fronts ≡ x.fronts

-- at a moment that the clock may have given
abbrev pub IsStepAt : Option ℕ → Request → Lived → Reply → Lived → Type 0
IsStepAt clock q x reply y = (now : ℕ) × MayGive clock now × IsStep now q x reply y

-- CHANGES THAT ARE MADE ONE AFTER ANOTHER

-- Changes that may be made on x: each store is the one before it with the rows of the change, and each world is sound and later than that of x.
pub record MayMake (x : Lived) (changes : List Change) : Type 0 where
  pub rows : AreTheirRows x.world.store changes
  pub sound : (c : Change) → Has changes c → Sound c.world
  pub later : (c : Change) → Has changes c → LaterW x.world c.world

-- The keeper was asked once to store the rows of a change, if it has any, and the change was made if it took them.
pub record MakesOne (x : Lived) (c : Change) (taken : Bool) (y : Lived) : Type 0 where
  pub kept : IsKept x.keeper y.keeper c.rows c.cleans taken
  pub world : y.world ≡ (if taken then c.world else x.world)
  pub fronts : y.fronts ≡ x.fronts

-- These changes were made on x up to the first whose rows the keeper did not take, and y is left. The reply is `due` if all were made; else it shows
-- the keeper's counts, of which `before` is that at the beginning of the step.
pub record Makes (before : ℕ) (changes : List Change) (due : Reply) (x : Lived) (reply : Reply) (y : Lived) : Type 0 where
  pub takes : List Bool
  pub asked : Asked x.keeper y.keeper takes (tasks_of changes)
  pub made_is : (all : List Bool) → record { reply = reply; machine = machine_in y }
      ≡ made (record { takes = all; before = before; after = y.keeper.count }) (machine_in x) takes changes due
  pub fronts : y.fronts ≡ x.fronts

-- what became of the changes: all were made, or the keeper failed, with its counts before and after
pub data Settled : Type 0 where
  All : Settled
  Stopped : (before after : ℕ) → Settled

abbrev pub IsStopped : Settled → Type 0
IsStopped All = ⊥
IsStopped (Stopped before after) = Unit {0}

-- the reply, if this one is due once all are made
abbrev pub reply_after : Settled → Reply → Reply
reply_after All due = due
reply_after (Stopped before after) due = KeeperFault before after

-- they were made so, whatever reply is due
abbrev pub Settles : List Change → Lived → Settled → Lived → Type 0
Settles changes x s y = (due : Reply) → Makes x.keeper.count changes due x (reply_after s due) y

-- WHERE MEMORY RAN OUT

-- y has the world of x, and its keeper holds what that of x held
abbrev pub Stays : Lived → Lived → Type 0
Stays x y = (y.world ≡ x.world) × (y.keeper.held ≡ x.keeper.held)

-- the world after these changes, made of W one after another
abbrev pub world_after : World → List Change → World
world_after W [] = W
world_after W (c ∷ more) = world_after c.world more

-- the keeper took the rows of each of these changes
abbrev pub AreTaken : List Bool → List Change → Type 0
AreTaken takes [] = Unit {0}
AreTaken takes (c ∷ more) = (is_taken takes c.rows ≡ true) × AreTaken (takes_after c.rows takes) more

-- Of these changes of W only the first were made, one after another, and they stand: the keeper took their rows, and holds what it held then. The
-- next, which has rows, was not made, and none after it.
pub record MadeInPart (changes : List Change) (W : World) (keeper : KeeperState) (V : World) (held : Option (List KeptRow)) : Type 0 where
  pub done : List Change
  pub next : Change
  pub left : List Change
  pub split : changes ≡ done ++ next ∷ left
  pub has_rows : next.rows ≢ []
  pub takes : List Bool
  pub reached : KeeperState
  pub asked : Asked keeper reached takes (tasks_of done)
  pub taken : AreTaken takes done
  pub world : V ≡ world_after W done
  pub holds : held ≡ reached.held

-- so they were made on x, and y is left
abbrev pub IsMadeInPart : List Change → Lived → Lived → Type 0
IsMadeInPart changes x y = MadeInPart changes x.world x.keeper y.world y.keeper.held
