use Rattle.std.proofs.Common.{arith}
use Rattle.std.proofs.lemmas.List.{drop_all}
use Rattle.raven_json.proofs.Depths.{item_depth, member_depth}
use Rattle.raven_json.proofs.measure.+measure.Goals as goal

pub with_items-with_value-all-requires : goal.with_items-with_value-all-requires
with_items-with_value-all-requires t c =
    let inner = rw c.as_slice-item-items.ensures at (item_depth c.as_slice-item-items.result.now c.loop-item.item-index c.item-item.result c.loop-item-test.true c.item-item.is) in
    (omega arith, tt)

pub with_items-returns : goal.with_items-returns
with_items-returns t c =
    let whole = rw (drop_all c.loop-item.item-index c.as_slice-item-items.result.now (omega arith)) at c.loop-item.invariant.counted in
    omega arith

pub with_members-with_value-all-requires : goal.with_members-with_value-all-requires
with_members-with_value-all-requires t c =
    let inner = rw c.as_slice-member-items.ensures.members at (member_depth c.as_slice-member-items.result.now c.loop-member.member-index c.member-item.result c.loop-member-test.true c.member-item.is) in
    (omega arith, tt)

pub with_members-returns : goal.with_members-returns
with_members-returns t c =
    let whole = rw (drop_all c.loop-member.member-index c.as_slice-member-items.result.now (omega arith)) at c.loop-member.invariant.counted in
    omega arith
