use Rattle.std.proofs.Common.{subst, sym}
use Rattle.spec_store.specs.Store.{last}
use Rattle.spec_index.specs.World.{World, with_version}
use Rattle.side_by_side.specs.Standing.{Standing}
use Rattle.raven_world.specs.Roomy.{NumbersUpTo}
use Rattle.raven_world.proofs.Numbers.{numbers-map, versioned-number}
use Rattle.raven_world.proofs.world.World.publish.Goals as goal

pub with_slots-requires : goal.with_slots-requires
with_slots-requires c =
    let latest = last c.args.self.now.store in
    let v = c.args.version.value.version in
    subst (λ (x : Standing). NumbersUpTo latest x.slots) (sym c.in_ok-slots.ensures)
    (numbers-map latest (with_version c.args.number v) c.self.inside.slots.slots (versioned-number c.args.number v)
    (subst (λ (W : World). NumbersUpTo (last W.store) c.self.inside.slots.slots) c.self.view_is c.self.invariant.numbers))
