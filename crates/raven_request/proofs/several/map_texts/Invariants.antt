use Rattle.std.proofs.Common.{◌≡◌, drop, map}
use Rattle.raven_value.specs.View.{data_of}
use Rattle.spec_server.specs.Texts.{map_texts}
use Rattle.raven_request.proofs.SeveralMaps.{texts_before}
use Rattle.raven_request.proofs.several.map_texts.Given as goal

-- those that are left have still to be added
abbrev pub invariant-loop-value : goal.invariant-loop-value
invariant-loop-value l = texts_before (map (λ m. m.now) l.maps.items) (map_texts (map data_of (drop l.value-index l.values))) ≡ map_texts (map data_of l.values)
