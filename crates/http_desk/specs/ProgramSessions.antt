-- A session over the input and the output of a program.
use Rattle.std.specs.Prelude.{◌≡◌, ℕ, List, Option, ◌⊎◌}
use Rattle.raven_ports.specs.Faults.{Rose}
use Rattle.raven_ports.specs.States.{KeeperState, SinkState, SourceState}
use Rattle.doc_keeper.specs.declared.loading.LoadFault.{LoadFault}
use Rattle.doc_keeper.specs.declared.loading.LoadFault.TheVariants as load
use Rattle.http_session.specs.Steps.{IsOfBytes}
use Rattle.http_session.specs.declared.why.Why.{Why}
use Rattle.http_session.specs.declared.why.Why.TheVariants as why
use Rattle.spec_server.specs.Options.{setting_with}
use Rattle.spec_desk.specs.Keepers as desk
use Rattle.spec_desk.specs.Lived.{Lived, machine_in}
use Rattle.raven_desk.specs.Desks.{alone}
use Rattle.raven_desk.specs.Openings.{IsBad, Loads, Opens}
use Rattle.http_desk.specs.Chains.{FinishesAlone, KeepsAlone, NamedDesk}
use Rattle.http_desk.specs.declared.serving.ServeEnd.{ServeEnd}
use Rattle.http_desk.specs.declared.serving.ServeEnd.TheVariants.{Done, Enough, KeptBad, KeptFault, NoMemory, ReadFault, Refused, WriteFault}

-- the devices at one moment
pub record Devices : Type 0 where
  pub input : SourceState
  pub output : SinkState
  pub keeper : KeeperState

abbrev pub devices_of : SourceState → SinkState → KeeperState → Devices
devices_of input output keeper = record { input = input; output = output; keeper = keeper }

-- a session: the base id of its database and its name, the size of the batches after each request, the one moment of its clock if the clock stands still,
-- and the devices before and after
pub record Session : Type 0 where
  pub base : List ℕ
  pub name : List ℕ
  pub pump : ℕ
  pub clock : Option ℕ
  pub before : Devices
  pub after : Devices

-- its desk with this value, and the name of the database
abbrev pub desk_of : Session → Lived → NamedDesk
desk_of s x = (alone x s.clock s.pump, s.name)

-- the output and the keeper hold what they held
abbrev pub HoldsSame : Session → Type 0
HoldsSame s = (s.after.output.held ≡ s.before.output.held) × (s.after.keeper.held ≡ s.before.keeper.held)

-- The database of the stored rows was opened, and the session over it finished so, if the input reports its bytes; the keeper is that of the last value,
-- and holds the rows of its store.
pub record Serves (how : Why) (s : Session) : Type 0 where
  pub first : Lived
  pub last : Lived
  pub opens : Opens (setting_with s.base) s.before.keeper.held (machine_in first)
  pub loads : Loads s.before.keeper first.keeper
  pub fronts : first.fronts ≡ 0
  pub finishes : FinishesAlone s.before.input (desk_of s first) s.before.output how (desk_of s last) s.after.output
  pub kept : KeepsAlone (desk_of s first) (desk_of s last)
  pub keeper : s.after.keeper ≡ last.keeper
  pub holds : desk.Keeps s.after.keeper.held (machine_in last)

-- what each end of the command says of the session
abbrev pub EndsSo : ServeEnd → Session → Type 0
EndsSo Done s = Serves why.Ended s ⊎ Serves why.Closed s
EndsSo (Refused end) s = IsOfBytes end × Serves (why.Http end) s
EndsSo Enough s = Serves why.Enough s
EndsSo ReadFault s = Rose s.before.input.faults s.after.input.faults × Serves why.ReadFault s
EndsSo WriteFault s = Rose s.before.output.faults s.after.output.faults × Serves why.WriteFault s
EndsSo KeptFault s = Loads s.before.keeper s.after.keeper × Rose s.before.keeper.count s.after.keeper.count
EndsSo (KeptBad etag) s = Loads s.before.keeper s.after.keeper × IsBad (setting_with s.base) s.before.keeper.held etag
EndsSo NoMemory s = HoldsSame s ⊎ Serves why.NoMemory s

-- no request was read, because of what the keeper holds or does
abbrev pub IsUnopened : ServeEnd → Type 0
IsUnopened KeptFault = Unit {0}
IsUnopened (KeptBad etag) = Unit {0}
IsUnopened other = ⊥

-- the end of a session whose database was not opened
abbrev pub end_unopened : LoadFault → ServeEnd
end_unopened load.Failed = KeptFault
end_unopened (load.KeptBad etag) = KeptBad etag
end_unopened load.NoMemory = NoMemory

-- and of one that was served
abbrev pub end_of : Why → ServeEnd
end_of why.Ended = Done
end_of why.Closed = Done
end_of (why.Http end) = Refused end
end_of why.ReadFault = ReadFault
end_of why.WriteFault = WriteFault
end_of why.Enough = Enough
end_of why.NoMemory = NoMemory
