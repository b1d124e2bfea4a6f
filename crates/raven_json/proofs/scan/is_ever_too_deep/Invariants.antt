use Rattle.std.proofs.Common.{◌≡◌, ◌≤◌, drop}
use Rattle.spec_data.specs.Scan.{is_too_deep, outside}
use Rattle.raven_json.specs.PlaceView.{place_view}
use Rattle.raven_json.proofs.scan.is_ever_too_deep.Given as goal

abbrev pub invariant-loop-byte : goal.invariant-loop-byte
invariant-loop-byte l = record {
  few : l.depth ≤ 100;
  rest : is_too_deep (place_view l.place) l.depth (drop l.byte-index l.bytes) ≡ is_too_deep outside 0 l.bytes;
}
