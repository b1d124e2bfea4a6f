-- A whole measurement.
use Rattle.std.specs.Prelude.{◌≡◌, ℕ, ◌<◌, List, ◌∷◌, ◌++◌, Option, Some, Ok, Result}
use Rattle.index_lang.specs.Openings.{IsOpened}
use Rattle.index_lang.specs.Says.{Says}
use Rattle.index_tree.specs.Definitions.{Definition}
use Rattle.index_tree.specs.Language.{LangRefusal}
use Rattle.raven_ports.specs.Faults.{Rose}
use Rattle.raven_ports.specs.Reported.{appended}
use Rattle.raven_ports.specs.States.{KeeperState, SinkState}
use Rattle.spec_data.specs.Kept.{KeptRow}
use Rattle.spec_measure.specs.Requests.{Options, definitions, index_texts}
use Rattle.spec_measure.specs.Summary.{printed_summary, summary_of}
use Rattle.spec_server.specs.Requests.{Request}
use Rattle.spec_server.specs.Courses.{Machine}
use Rattle.spec_server.specs.Options.{setting_with}
use Rattle.spec_store.specs.Limits.{base_id}
use Rattle.spec_store.specs.Store.{last}
use Rattle.spec_desk.specs.Keepers.{Holds}
use Rattle.spec_desk.specs.Lived.{Lived, machine_in}
use Rattle.raven_ports.specs.Given.{GivesPrefix}
use Rattle.raven_desk.specs.Openings.{Loads, Opens}
use Rattle.raven_measure.specs.Doing.{Does, IsNotTaken, Measures, State, with_batches}

-- the output and the keeper at one moment
pub record Ends : Type 0 where
  pub output : SinkState
  pub keeper : KeeperState

abbrev pub ends_of : SinkState → KeeperState → Ends
ends_of output keeper = record { output = output; keeper = keeper }

-- a measurement: how it is made, the one moment of its clock if the clock stands still, and the output and the keeper before and after
pub record Run : Type 0 where
  pub options : Options
  pub clock : Option ℕ
  pub before : Ends
  pub after : Ends

-- THE BEGINNING

-- the database of the stored rows was opened, it has no rows, and no batch was made
pub record Begins (before : KeeperState) (first : State) : Type 0 where
  pub opens : Opens (setting_with base_id) before.held (machine_in first.live)
  pub loads : Loads before first.live.keeper
  pub empty : last first.live.world.store ≡ 0
  pub none : first.moved ≡ 0

-- the database of the stored rows has rows, and its last etag is this
pub record HasRows (before : KeeperState) (etag : ℕ) : Type 0 where
  pub machine : Machine
  pub opens : Opens (setting_with base_id) before.held machine
  pub is : last machine.world.store ≡ etag
  pub above : 0 < etag

-- THE END

-- All requests were made, beginning with the definition of the index, if its texts are one. The keeper holds the rows of the last store. What was
-- added to the output is so related to the line of the summary.
pub record Ran (run : Run) (Written : Option (List ℕ) → Option (List ℕ) → List ℕ → Type 0) : Type 0 where
  pub first : State
  pub begins : Begins run.before.keeper first
  pub answer : Result Definition LangRefusal
  pub says : Says index_texts answer
  pub final : State
  pub measures : Measures run.clock run.options (definitions answer) first final
  pub written : Written run.before.output.held run.after.output.held (printed_summary (summary_of final.moved (machine_in final.live)))
  pub holds : Holds run.after.keeper.held (machine_in final.live)

-- the summary was written
abbrev pub Finished : Run → Type 0
Finished run = Ran run (λ before after line. after ≡ appended before line)

-- a prefix of it was
abbrev pub Stopped : Run → Type 0
Stopped run = Ran run GivesPrefix

-- AN EARLY END

-- nothing was written, and the keeper holds what it held
pub record HoldsSame (run : Run) : Type 0 where
  pub output : run.after.output ≡ run.before.output
  pub keeper : run.after.keeper.held ≡ run.before.keeper.held

-- the keeper failed when it was asked for its rows, and nothing was done
pub record FailsToOpen (run : Run) : Type 0 where
  pub output : run.after.output ≡ run.before.output
  pub loads : Loads run.before.keeper run.after.keeper
  pub fault : Rose run.before.keeper.count run.after.keeper.count

-- Of the requests of a measurement, with so many batches at the end, only the first were made, and the next was not. The keeper holds the rows of
-- the store that they left, and nothing was written.
pub record RanShort (run : Run) : Type 0 where
  pub first : State
  pub begins : Begins run.before.keeper first
  pub answer : Result Definition LangRefusal
  pub says : Says index_texts answer
  pub done : List Request
  pub next : Request
  pub left : List Request
  pub more : ℕ
  pub split : with_batches run.options (definitions answer) more ≡ done ++ next ∷ left
  pub reached : State
  pub does : Does run.clock first done reached
  pub holds : Holds run.after.keeper.held (machine_in reached.live)
  pub output : run.after.output ≡ run.before.output

-- and the next was not since the keeper did not take its rows
pub record FailsLater (run : Run) : Type 0 where
  pub short : RanShort run
  pub last : Lived
  pub kept : last.keeper ≡ run.after.keeper
  pub fault : IsNotTaken run.clock short.next short.reached.live last

-- COMPLETENESS

-- the stored rows open an empty database
pub record IsValid (run : Run) : Type 0 where
  pub rows : List KeptRow
  pub kept : run.before.keeper.held ≡ Some rows
  pub machine : Machine
  pub opens : IsOpened (setting_with base_id) rows (Ok machine)
  pub empty : last machine.world.store ≡ 0

-- no count of faults rose
pub record HasNoFault (run : Run) : Type 0 where
  pub output : ¬ Rose run.before.output.faults run.after.output.faults
  pub keeper : ¬ Rose run.before.keeper.count run.after.keeper.count
