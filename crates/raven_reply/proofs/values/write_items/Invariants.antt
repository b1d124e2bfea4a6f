use Rattle.std.proofs.Common.{◌≡◌, ◌++◌, drop, false}
use Rattle.spec_data.specs.Data.{items_of}
use Rattle.spec_data.specs.Written.{items_text}
use Rattle.raven_reply.proofs.values.write_items.Given as goal

abbrev pub invariant-loop-item : goal.invariant-loop-item
invariant-loop-item l = l.out.items ++ items_text l.later (items_of (drop l.item-index l.items)) ≡ l.fn.out.items ++ items_text false (items_of l.items)
