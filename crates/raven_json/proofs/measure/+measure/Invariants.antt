use Rattle.std.proofs.Common.{◌≡◌, ◌<◌, ◌+◌, ◌-◌, ◌*◌, ◌^◌, drop, map, length, min, false}
use Rattle.spec_data.specs.Data.{depth, items_of, items_depth, entries_of, entries_depth}
use Rattle.raven_value.specs.View.{data_of, pair_of}
use Rattle.spec_data.specs.Written.{items_text, entries_text}
use Rattle.raven_json.proofs.measure.+measure.Given as goal

abbrev pub decreases-with_value : goal.decreases-with_value
decreases-with_value l = 2 * depth (data_of l.value.now)

abbrev pub decreases-with_items : goal.decreases-with_items
decreases-with_items l = 2 * items_depth (items_of l.items.now) + 1

abbrev pub decreases-with_members : goal.decreases-with_members
decreases-with_members l = 2 * entries_depth (entries_of l.members.now) + 1

abbrev pub invariant-with_items-loop-item : goal.invariant-with_items-loop-item
invariant-with_items-loop-item l = record {
  fits : l.all < 2 ^ 64;
  counted : min (l.all + length (items_text l.later (items_of (map data_of (drop l.item-index l.item-items))))) (2 ^ 64 - 1) ≡ min (l.len + length (items_text false (items_of l.items))) (2 ^ 64 - 1);
}

abbrev pub invariant-with_members-loop-member : goal.invariant-with_members-loop-member
invariant-with_members-loop-member l = record {
  fits : l.all < 2 ^ 64;
  counted : min (l.all + length (entries_text l.later (entries_of (map pair_of (drop l.member-index l.member-items))))) (2 ^ 64 - 1) ≡ min (l.len + length (entries_text false (entries_of l.members))) (2 ^ 64 - 1);
}
