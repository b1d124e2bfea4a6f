use Rattle.std.proofs.Common.{◌≡◌, ◌+◌, drop, map}
use Rattle.std.specs.Vec.{vec_len}
use Rattle.spec_server.specs.Texts.{part_texts}
use Rattle.raven_request.specs.RequestView.{part_view}
use Rattle.raven_request.proofs.SeveralMaps.{SayLater}
use Rattle.raven_request.proofs.several.parts_by.Given as goal

-- those that are left have still to be read
abbrev pub invariant-loop-map : goal.invariant-loop-map
invariant-loop-map l = record {
  count : vec_len l.parts ≡ l.map-index;
  later : SayLater l.texts.reduce.now (map part_view l.parts.items) (part_texts (l.map-index + 1) l.texts.name.now (map (λ m. m.now) (drop l.map-index l.texts.maps.items)))
      (part_texts 1 l.texts.name.now (map (λ m. m.now) l.texts.maps.items));
}
