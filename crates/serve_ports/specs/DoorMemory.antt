-- What a door in memory is seen as.
use Rattle.std.specs.Prelude.{ℕ, List, ◌==◌, length, map, Some}
use Rattle.raven_ports.specs.Memory.{Memory, sink_state, source_state}
use Rattle.serve_ports.specs.Counted.{Counted}
use Rattle.serve_ports.specs.Doors.{Doorway, Ends, ends}

-- the connections that are left, those that came back, in order, how many were accepted and have not come back, and its calls that found it open
pub record DoorMemory : Type 0 where
  pub left : List (Memory × Memory)
  pub back : List (Memory × Memory)
  pub out : ℕ
  pub calls : Counted

-- the two ends of a connection in memory
abbrev pub ends_of : Memory × Memory → Ends
ends_of conn = ends (source_state conn.0) (sink_state conn.1)

-- it reports everything, and is closed if no connection is left
abbrev pub doorway : DoorMemory → Doorway
doorway m = record {
  left = Some (map ends_of m.left);
  back = Some (map ends_of m.back);
  out = Some m.out;
  plan = Some m.calls.plan;
  closed = length m.left == 0;
  faults = m.calls.faults;
}
