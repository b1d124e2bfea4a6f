use Rattle.std.proofs.Common.{◌≡◌, ◌-◌, ◌≤◌, length, take, flat_map}
use Rattle.spec_data.specs.Written.{escaped}
use Rattle.raven_json.proofs.encode.plain_len.Given as goal

abbrev pub invariant-loop-len : goal.invariant-loop-len
invariant-loop-len l = record {
  in_range : l.len ≤ length l.bytes;
  plain : flat_map escaped (take l.len l.bytes) ≡ take l.len l.bytes;
}

abbrev pub decreases-loop-len : goal.decreases-loop-len
decreases-loop-len l = length l.bytes - l.len
