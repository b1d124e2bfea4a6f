use Rattle.std.proofs.Common.{arith, IsUtf8, subst}
use Rattle.std.proofs.lemmas.Grind.{common_steps}
use Rattle.raven_json.proofs.Depths.{item_depth, member_depth}
use Rattle.raven_json.proofs.Sounds.{one_more}
use Rattle.raven_json.proofs.encode.+write.Goals as goal

pub write_items-write_value-requires : goal.write_items-write_value-requires
write_items-write_value-requires t c =
    let inner = rw c.as_slice-item-items.ensures at (item_depth c.as_slice-item-items.result.now c.loop-item.item-index c.item-item.result c.loop-item-test.true c.item-item.is) in
    (omega arith, tt)

pub write_members-write_value-requires : goal.write_members-write_value-requires
write_members-write_value-requires t c =
    let inner = rw c.as_slice-member-items.ensures.members at (member_depth c.as_slice-member-items.result.now c.loop-member.member-index c.member-item.result c.loop-member-test.true c.member-item.is) in
    (omega arith, tt)

pub write_members-loop-member-preserved : goal.write_members-loop-member-preserved
write_members-loop-member-preserved t c = record {
  text = grind (arith, common_steps);
  sound = λ rest. c.loop-member.invariant.sound (
      one_more c.as_slice-member-items.result.now c.loop-member.member-index c.member-item.result c.loop-member-test.true c.member-item.is
      (subst IsUtf8 c.as_str.ensures c.in_ok-write_quoted.ensures.utf8)
      c.in_ok-write_value.ensures.sound
      rest);
}
