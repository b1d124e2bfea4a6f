use Rattle.std.proofs.Common.{◌≡◌, ◌++◌, ◌+◌, ◌*◌, drop, map, false}
use Rattle.spec_data.specs.Data.{depth, items_of, items_depth, entries_of, entries_depth}
use Rattle.spec_data.specs.Sound.{AreSound, HasSound}
use Rattle.raven_value.specs.View.{data_of, pair_of}
use Rattle.spec_data.specs.Written.{items_text, entries_text}
use Rattle.raven_json.proofs.encode.+write.Given as goal

abbrev pub decreases-write_value : goal.decreases-write_value
decreases-write_value l = 2 * depth (data_of l.value.now)

abbrev pub decreases-write_items : goal.decreases-write_items
decreases-write_items l = 2 * items_depth (items_of l.items.now) + 1

abbrev pub decreases-write_members : goal.decreases-write_members
decreases-write_members l = 2 * entries_depth (entries_of l.members.now) + 1

abbrev pub invariant-write_items-loop-item : goal.invariant-write_items-loop-item
invariant-write_items-loop-item l =
    let rest = items_of (map data_of (drop l.item-index l.item-items)) in
    record {
      text : l.out.items ++ items_text l.later rest ≡ l.fn.out.items ++ items_text false (items_of l.items);
      sound : AreSound rest → AreSound (items_of l.items);
    }

abbrev pub invariant-write_members-loop-member : goal.invariant-write_members-loop-member
invariant-write_members-loop-member l =
    let rest = entries_of (map pair_of (drop l.member-index l.member-items)) in
    record {
      text : l.out.items ++ entries_text l.later rest ≡ l.fn.out.items ++ entries_text false (entries_of l.members);
      sound : HasSound rest → HasSound (entries_of l.members);
    }
