-- What the end of a measurement says of it.
use Rattle.std.specs.Prelude.{◌≡◌, ℕ, ◌⊎◌}
use Rattle.doc_keeper.specs.declared.loading.LoadFault.{LoadFault}
use Rattle.doc_keeper.specs.declared.loading.LoadFault.TheVariants as load
use Rattle.raven_ports.specs.Faults.{Rose}
use Rattle.raven_ports.specs.States.{KeeperState}
use Rattle.spec_server.specs.Options.{setting_with}
use Rattle.spec_store.specs.Limits.{base_id}
use Rattle.raven_desk.specs.Openings.{IsBad}
use Rattle.raven_measure.specs.Measures.{FailsLater, FailsToOpen, Finished, HasNoFault, HasRows, HoldsSame, IsValid, RanShort, Run, Stopped}
use Rattle.raven_measure.specs.declared.making.Stop.{Stop}
use Rattle.raven_measure.specs.declared.making.Stop.TheVariants as stop
use Rattle.raven_measure.specs.declared.measuring.MeasureEnd.{MeasureEnd}
use Rattle.raven_measure.specs.declared.measuring.MeasureEnd.TheVariants.{Done, KeptBad, KeptFault, NoMemory, NotEmpty, WriteFault}

-- How far a measurement came that ended early. If the keeper failed, it did so while the database was opened, or at a request. If memory ran out,
-- nothing was done, or some of the requests, or all of them and then a prefix of the summary was written.
abbrev pub StopsEarly : MeasureEnd → Run → Type 0
StopsEarly KeptFault run = FailsToOpen run ⊎ FailsLater run
StopsEarly NoMemory run = HoldsSame run ⊎ (RanShort run ⊎ Stopped run)
StopsEarly other run = Unit {0}

-- The measurement ended so. The output and the keeper are spoken of as far as they report their contents.
pub record MeasuresRightly (end : MeasureEnd) (run : Run) : Type 0 where
  -- all requests were made, the summary was written, and the keeper holds the rows of the last store
  pub done : end ≡ Done → Finished run
  -- a device has failed only if its count of faults rose
  pub write_fault : end ≡ WriteFault → Rose run.before.output.faults run.after.output.faults
  pub kept_fault : end ≡ KeptFault → Rose run.before.keeper.count run.after.keeper.count
  -- how far it came, if the keeper failed or memory ran out
  pub stopped_early : StopsEarly end run
  -- the first invalid row that the keeper holds has this etag
  pub kept_bad : (etag : ℕ) → end ≡ KeptBad etag → IsBad (setting_with base_id) run.before.keeper.held etag
  -- the keeper holds rows, and the last etag is this
  pub not_empty : (last : ℕ) → end ≡ NotEmpty last → HasRows run.before.keeper last
  -- all requests were made, but of the summary only a prefix was written
  pub stopped : end ≡ WriteFault → Stopped run
  -- a valid call is done to its end, if no device fails and there is memory
  pub complete : IsValid run → HasNoFault run → (end ≡ Done) ⊎ (end ≡ NoMemory)

-- the end if a request could not be made, and if the database could not be opened
abbrev pub end_of_stop : Stop → MeasureEnd
end_of_stop stop.Kept = KeptFault
end_of_stop stop.NoMemory = NoMemory

abbrev pub end_of_load : LoadFault → MeasureEnd
end_of_load load.Failed = KeptFault
end_of_load (load.KeptBad etag) = KeptBad etag
end_of_load load.NoMemory = NoMemory

-- why no request was made
abbrev pub IsUnmeasured : KeeperState → KeeperState → MeasureEnd → Type 0
IsUnmeasured before after (KeptBad etag) = IsBad (setting_with base_id) before.held etag
IsUnmeasured before after KeptFault = Rose before.count after.count
IsUnmeasured before after (NotEmpty etag) = HasRows before etag
IsUnmeasured before after NoMemory = Unit {0}
IsUnmeasured before after other = ⊥

-- nothing was done, because of what the keeper holds
abbrev pub IsRefused : MeasureEnd → Type 0
IsRefused (KeptBad etag) = Unit {0}
IsRefused (NotEmpty last) = Unit {0}
IsRefused other = ⊥
