use Rattle.std.proofs.Common.{◌≡◌, length}
use Rattle.std.specs.Vec.Iter.{into_iter_items, into_iter_len}
use Rattle.raven_desk.proofs.Definings.{Goes}
use Rattle.raven_desk.proofs.defining.define_parts.Given as goal

-- the parts that are left
abbrev pub invariant-loop-part : goal.invariant-loop-part
invariant-loop-part l = record {
  going : Goes l.fn.now l.fn.parts.items l.fn.world l.changes.items (into_iter_items l.part-iterator) l.names;
  left : into_iter_len l.part-iterator ≡ length (into_iter_items l.part-iterator);
}
