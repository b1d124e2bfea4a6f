-- What the end of a run says of it.
use Rattle.std.specs.Prelude.{◌≡◌, ℕ, ◌⊎◌, Result, Ok, Err}
use Rattle.raven_ports.specs.Faults.{Rose}
use Rattle.raven_ports.specs.Taken.{TakesMore, TakesWithin}
use Rattle.raven_ports.specs.declared.ports.SinkFault.{SinkFault}
use Rattle.raven_ports.specs.declared.ports.SinkFault.TheVariants as sink
use Rattle.doc_keeper.specs.declared.loading.LoadFault.{LoadFault}
use Rattle.doc_keeper.specs.declared.loading.LoadFault.TheVariants as load
use Rattle.spec_server.specs.Lines.{max_input}
use Rattle.raven_run.specs.declared.run_end.RunEnd.{RunEnd}
use Rattle.raven_run.specs.declared.run_end.RunEnd.TheVariants.{Done, InputTooLarge, KeptBad, KeptFault, NoMemory, ReadFault, WriteFault}
use Rattle.raven_run.specs.Input.{IsRead}
use Rattle.raven_run.specs.Runs.{FailsToLoad, Finished, HasNoFault, HoldsSame, IsKeptBad, IsValid, Run, Stopped, StoppedEarly}
use Rattle.raven_run.specs.Truth.{RunsTruly}

-- a run ends so only after it has read the whole input, which it does before it opens the database
abbrev pub ComesAfterReading : RunEnd → Type 0
ComesAfterReading Done = Unit {0}
ComesAfterReading WriteFault = Unit {0}
ComesAfterReading KeptFault = Unit {0}
ComesAfterReading (KeptBad etag) = Unit {0}
ComesAfterReading other = ⊥

-- The run ended so. The input, the output and the keeper are spoken of as far as they report their contents.
pub record RunsRightly (end : RunEnd) (run : Run) : Type 0 where
  -- all lines were executed and all replies were written, and the keeper holds the rows of the last store
  pub done : end ≡ Done → Finished run
  -- a device has failed only if its count of faults rose
  pub read_fault : end ≡ ReadFault → Rose run.before.input.faults run.after.input.faults
  pub write_fault : end ≡ WriteFault → Rose run.before.output.faults run.after.output.faults
  -- that of the keeper while the database was opened: a failure after that is replied to the line
  pub kept_fault : end ≡ KeptFault → FailsToLoad run.before.keeper run.after.keeper
  -- the first invalid row that the keeper holds has this etag
  pub kept_bad : (etag : ℕ) → end ≡ KeptBad etag → IsKeptBad run etag
  -- all of the input was taken, and it was no more than may be read
  pub read : ComesAfterReading end → IsRead run.before.input.left run.after.input.left
  -- the replies end in one of them, and no later line was executed
  pub stopped : end ≡ WriteFault → Stopped run
  -- nothing was written and stored, or it stopped before the reply to one of the lines, or at it
  pub memory : end ≡ NoMemory → HoldsSame run ⊎ (StoppedEarly run ⊎ Stopped run)
  -- one byte more than may be read was taken of the input
  pub too_large : end ≡ InputTooLarge → TakesMore max_input run.before.input.left run.after.input.left
  -- no more than may be read was taken of the input
  pub within : end ≡ ReadFault → TakesWithin max_input run.before.input.left run.after.input.left
  -- a valid input is answered to its end, if no device fails and there is memory
  pub complete : IsValid run → HasNoFault run → (end ≡ Done) ⊎ (end ≡ NoMemory)
  -- whatever lines were answered, all states between them are sound, each is later than those before, and the answers in each are true
  pub truth : RunsTruly run

-- its input was not read
abbrev pub IsUnread : RunEnd → Type 0
IsUnread ReadFault = Unit {0}
IsUnread InputTooLarge = Unit {0}
IsUnread NoMemory = Unit {0}
IsUnread other = ⊥

-- no line was executed, because of what the keeper holds or does
abbrev pub IsUnopened : RunEnd → Type 0
IsUnopened (KeptBad etag) = Unit {0}
IsUnopened KeptFault = Unit {0}
IsUnopened other = ⊥

-- the end of a run whose database was not opened
abbrev pub end_unopened : LoadFault → RunEnd
end_unopened load.Failed = KeptFault
end_unopened (load.KeptBad etag) = KeptBad etag
end_unopened load.NoMemory = NoMemory

-- and of one whose lines were answered, or not all of them
abbrev pub end_answered : Result (Unit {0}) SinkFault → RunEnd
end_answered (Ok done) = Done
end_answered (Err sink.Failed) = WriteFault
end_answered (Err sink.NoMemory) = NoMemory
