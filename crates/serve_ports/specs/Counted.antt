-- The calls of a device in memory, some of which fail.
use Rattle.std.specs.Prelude.{ℕ}
use Rattle.raven_ports.specs.Plan.{Plan}

-- which of them fail, and how many have failed
pub record Counted : Type 0 where
  pub plan : Plan
  pub faults : ℕ
