use Rattle.std.proofs.Common.{◌≤◌, subst, sym}
use Rattle.spec_store.specs.Store.{last}
use Rattle.spec_index.specs.World.{World}
use Rattle.side_by_side.specs.Standing.{Standing}
use Rattle.raven_world.specs.Roomy.{NumbersUpTo}
use Rattle.raven_world.proofs.Numbers.{numbers-later}
use Rattle.raven_world.proofs.world.World.changed.Goals as goal

pub with-requires : goal.with-requires
with-requires c =
    subst (λ (x : Standing). NumbersUpTo (last c.args.done.store) x.slots) (sym c.in_ok-clone.ensures.cases)
    (numbers-later (last c.self.inside.store) (last c.args.done.store) c.self.inside.slots.slots
    (subst (λ (W : World). last W.store ≤ last c.args.done.store) (sym c.self.view_is) c.requires) c.self.invariant.numbers)
