use Rattle.std.proofs.Common.{◌≡◌, ◌-◌, ◌∙◌, ap, drop, is_some, length, rules, sym, take}
use Rattle.std.specs.Ordering.{on}
use Rattle.spec_data.specs.Folding.{folded, key_cmp}
use Rattle.spec_query.specs.Sorting.{inserted}
use Rattle.spec_data.specs.Faults.{replacement_of}
use Rattle.spec_index.specs.World.{serving}
use Rattle.side_by_side.proofs.InOrder.{first-and-more, left_out, put_in}
use Rattle.side_by_side.proofs.slots.Slots.+replaced_among.Goals as goal

pub returns-then-not-branch : goal.returns-then-not-branch
returns-then-not-branch n c =
    let slots = c.args.slots.now in
    left_out (λ s. is_some (serving c.args.self.now.slots (replacement_of s.name))) slots (take (length slots - 1) (drop 1 slots)) c.slot-item.result c.in_ok-names.names.items
    (first-and-more slots c.slot-item.result c.in-len1-up.len_at_least c.slot-item.is)
    (sym c.in_ok-is_replaced.ensures ∙ c.if-not-branch.true) c.in_ok-names.ensures

pub returns : goal.returns
returns n c =
    let slots = c.args.slots.now in
    let name : c.in_ok-clone.field-0 ≡ c.slot-item.result.name = search rules in
    put_in (λ s. is_some (serving c.args.self.now.slots (replacement_of s.name))) slots (take (length slots - 1) (drop 1 slots)) c.slot-item.result c.in_ok-names.names.items _
    (first-and-more slots c.slot-item.result c.in-len1-up.len_at_least c.slot-item.is)
    (sym c.in_ok-is_replaced.ensures ∙ c.if-not-branch.false) c.in_ok-names.ensures (c.in_ok-insert.ensures ∙ ap (λ x. inserted (on folded key_cmp) x c.in_ok-names.names.items) name)
