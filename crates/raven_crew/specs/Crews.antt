-- What contracts see of a crew.
use Rattle.std.specs.Prelude.{ℕ, Bool, true, false, Option, Some}
use Rattle.raven_ports.specs.Plan.{Plan}
use Rattle.serve_ports.specs.Counted.{Counted}
use Rattle.raven_crew.specs.declared.crew.Way.{Way}
use Rattle.raven_crew.specs.declared.crew.Way.TheVariants.{Together, Each, Refused}

-- which of its calls fail, if it reports that, and how often it has failed
pub record CrewState : Type 0 where
  pub plan : Option Plan
  pub faults : ℕ

-- a crew in memory reports it
abbrev pub crew_state : Counted → CrewState
crew_state c = record { plan = Some c.plan; faults = c.faults }

-- whether jobs are to be refused
abbrev pub is_to_refuse : Way → Bool
is_to_refuse Together = false
is_to_refuse Each = false
is_to_refuse Refused = true
