use Rattle.std.proofs.Common.{◌≡◌, [], drop}
use Rattle.serde_json.specs.View.{items_view, members_view}
use Rattle.spec_data.specs.Json.{items_of, members_of}
use Rattle.raven_json.proofs.convert.+convert.Given as goal

abbrev pub invariant-members_of-loop-key : goal.invariant-members_of-loop-key
invariant-members_of-loop-key l = members_of (members_view l.key-iterator) l.found ≡ members_of (members_view l.members.entries) []

abbrev pub invariant-values_of-loop-item : goal.invariant-values_of-loop-item
invariant-values_of-loop-item l = items_of (items_view (drop l.item-index l.item-items)) l.values ≡ items_of (items_view l.item-items) []
