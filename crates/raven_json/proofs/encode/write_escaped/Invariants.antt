use Rattle.std.proofs.Common.{◌≡◌, ◌-◌, ◌≤◌, ◌++◌, length, drop, flat_map}
use Rattle.spec_data.specs.Written.{escaped}
use Rattle.raven_json.proofs.encode.write_escaped.Given as goal

abbrev pub invariant-loop-done : goal.invariant-loop-done
invariant-loop-done l = record {
  in_range : l.done ≤ length l.bytes;
  written : l.out.items ++ flat_map escaped (drop l.done l.bytes) ≡ l.fn.out.items ++ flat_map escaped l.bytes;
}

abbrev pub decreases-loop-done : goal.decreases-loop-done
decreases-loop-done l = length l.bytes - l.done
