use Rattle.std.proofs.Common.{◌≡◌, [], IfSome, map, subst, sym}
use Rattle.spec_store.specs.Commit.{Server, commit}
use Rattle.spec_store.specs.Store.{last}
use Rattle.spec_index.specs.World.{World}
use Rattle.spec_index.specs.Optimiser.{retirement}
use Rattle.spec_server.specs.Indexing.{rewrote}
use Rattle.spec_server.specs.Replies.{Tidied}
use Rattle.doc_txn.specs.CommandView.{command_view}
use Rattle.doc_txn.specs.SettingView.{setting_of}
use Rattle.side_by_side.specs.Changes.{IsRetirement}
use Rattle.raven_world.specs.Roomy.{NumbersUpTo}
use Rattle.raven_world.specs.Slotting.{HasNumbers, change_to}
use Rattle.raven_world.specs.WorldView.{answer_view}
use Rattle.raven_world.proofs.Numbers.{retired-numbered}
use Rattle.raven_world.proofs.Steps.{retired-told}
use Rattle.raven_world.proofs.world.World.retire.Goals as goal

pub rewrite-requires : goal.rewrite-requires
rewrite-requires c =
    let W = c.args.self.now in
    let r = subst (λ (V : World). IsRetirement V c.in_ok-slots.field-0) c.self.view_is (c.in_ok-slots.ensures (setting_of c.self.inside.base c.self.inside.limits) c.self.inside.store) in
    let up = subst (λ (V : World). NumbersUpTo (last V.store) V.slots) c.self.view_is c.self.invariant.numbers in
    subst (λ commands. HasNumbers W c.args.now commands c.in_ok-slots.field-0.slots.slots) (sym r.commands)
    (subst (λ slots. HasNumbers W c.args.now (retirement W).commands slots) (sym r.slots) (retired-numbered c.args.now W up))

pub returns : goal.returns
returns c =
    let W = c.args.self.now in
    let commands = map command_view c.in_ok-slots.field-0.commands in
    let r = subst (λ (V : World). IsRetirement V c.in_ok-slots.field-0) c.self.view_is (c.in_ok-slots.ensures (setting_of c.self.inside.base c.self.inside.limits) c.self.inside.store) in
    retired-told W c.args.now c.args.switched.items c.in_ok-slots.field-0.names.items c.in_ok-slots.field-0.slots commands (answer_view c.rewrite.result) r.slots r.notes r.commands r.names
    (subst (λ told. IfSome (answer_view c.rewrite.result) (λ course. course ≡ rewrote W told (change_to c.in_ok-slots.field-0.slots commands []) (commit W.setting Server c.args.now commands W.store)))
    (λ i. Tidied (c.of-retired.ensures i) (c.of-switched.ensures i))
    (c.rewrite.ensures []))
