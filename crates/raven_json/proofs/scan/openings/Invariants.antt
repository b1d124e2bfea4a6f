use Rattle.std.proofs.Common.{◌≡◌, ◌≤◌, count_by, take}
use Rattle.raven_json.specs.Openings.{is_opening}
use Rattle.raven_json.proofs.scan.openings.Given as goal

abbrev pub invariant-loop-byte : goal.invariant-loop-byte
invariant-loop-byte l = record {
  few : l.count ≤ l.byte-index;
  counted : l.count ≡ count_by is_opening (take l.byte-index l.bytes);
}
