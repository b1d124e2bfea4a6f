-- What contracts see of a device at one moment.
-- A device in memory reports its contents; of a real one contracts see only how often it has failed.
use Rattle.std.specs.Prelude.{ℕ, List, Option}
use Rattle.spec_data.specs.Kept.{KeptRow}
use Rattle.raven_ports.specs.Plan.{Plan}

-- a source: the bytes that are left, if it reports them, and how often it has failed
pub record SourceState : Type 0 where
  pub left : Option (List ℕ)
  pub faults : ℕ

-- a sink: the bytes that it was given so far, if it reports them, and how often it has failed
pub record SinkState : Type 0 where
  pub held : Option (List ℕ)
  pub faults : ℕ

-- a keeper: the rows that it holds and the calls that fail, if it reports them, and how often it has failed
pub record KeeperState : Type 0 where
  pub held : Option (List KeptRow)
  pub plan : Option Plan
  pub count : ℕ
