use Rattle.std.proofs.Common.{sym, subst}
use Rattle.spec_store.specs.Store.{last}
use Rattle.doc_txn.specs.SettingView.{setting_of}
use Rattle.side_by_side.specs.Standing.{Standing, world_of}
use Rattle.raven_world.specs.Roomy.{NumbersUpTo}
use Rattle.raven_world.proofs.Cleanings.{below-last, cleaned-numbers}
use Rattle.raven_world.proofs.world.World.clean.Goals as goal

pub clean-requires : goal.clean-requires
clean-requires c =
    below-last (world_of (setting_of c.self.inside.base c.self.inside.limits) c.self.inside.store c.self.inside.slots) c.args.self.now c.clean_upto-upto.result c.self.view_is c.clean_upto-upto.ensures

pub with-requires : goal.with-requires
with-requires c =
    let inside = world_of (setting_of c.self.inside.base c.self.inside.limits) c.self.inside.store c.self.inside.slots in
    let below = below-last inside c.args.self.now c.clean_upto-upto.result c.self.view_is c.clean_upto-upto.ensures in
    subst (λ (x : Standing). NumbersUpTo (last c.in_ok-store.field-0.store) x.slots) (sym c.in_ok-clone.ensures.cases)
    (cleaned-numbers c.self.inside.store c.in_ok-store.field-0.store c.clean_upto-upto.result c.self.inside.slots.slots c.last-last.ensures.store below c.in_ok-store.ensures.left c.self.invariant.numbers)
