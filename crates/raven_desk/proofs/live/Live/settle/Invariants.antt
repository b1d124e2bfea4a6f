use Rattle.std.proofs.Common.{◌≡◌, length}
use Rattle.std.specs.Vec.Iter.{into_iter_items, into_iter_len}
use Rattle.spec_desk.proofs.Making.{Going}
use Rattle.raven_desk.proofs.live.Live.settle.Given as goal

-- the changes that are left
abbrev pub invariant-loop-change : goal.invariant-loop-change
invariant-loop-change g l = record {
  going : Going l.fn.self l.fn.changes.items (into_iter_items l.change-iterator) l.self;
  left : into_iter_len l.change-iterator ≡ length (into_iter_items l.change-iterator);
  counted : l.before ≡ l.fn.self.keeper.count;
}
