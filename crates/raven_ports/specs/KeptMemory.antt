-- What a keeper in memory is seen as.
use Rattle.std.specs.Prelude.{ℕ, List, ◌==◌, length, if◌then◌else◌, Some}
use Rattle.spec_data.specs.Kept.{KeptRow}
use Rattle.raven_ports.specs.Plan.{Plan}
use Rattle.raven_ports.specs.States.{KeeperState}

-- the rows that it holds, the numbers of the calls that fail, and how many calls and faults there were
pub record KeptMemory : Type 0 where
  pub rows : List KeptRow
  pub fails : List ℕ
  pub calls : ℕ
  pub faults : ℕ

-- one whose calls never fail has no faults
abbrev pub keeper_faults : KeptMemory → ℕ
keeper_faults m = if length m.fails == 0 then 0 else m.faults

-- which of its calls fail
abbrev pub plan_of : KeptMemory → Plan
plan_of m = record { fails = m.fails; calls = m.calls }

-- it reports everything
abbrev pub keeper_state : KeptMemory → KeeperState
keeper_state m = record { held = Some m.rows; plan = Some (plan_of m); count = keeper_faults m }
