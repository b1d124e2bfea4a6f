use Rattle.std.proofs.Common.{◌≡◌, ◌<◌, ◌+◌, ◌-◌, ◌^◌, drop, flat_map, length, min}
use Rattle.spec_data.specs.Written.{escaped, quoted}
use Rattle.raven_json.proofs.measure.with_quoted.Given as goal

abbrev pub invariant-loop-byte : goal.invariant-loop-byte
invariant-loop-byte l = record {
  fits : l.all < 2 ^ 64;
  counted : min (l.all + length (flat_map escaped (drop l.byte-index l.byte-items))) (2 ^ 64 - 1) ≡ min (l.len + length (quoted l.text)) (2 ^ 64 - 1);
}
