use Rattle.std.proofs.Common.{◌≡◌, ◌∙◌, Err, IfSome, Ok, subst, sym}
use Rattle.spec_store.specs.Store.{last}
use Rattle.spec_index.specs.World.{World, switch}
use Rattle.side_by_side.specs.Changes.{answer_view as slot_answer, change_view}
use Rattle.raven_world.specs.Roomy.{NumbersUpTo}
use Rattle.raven_world.proofs.Numbers.{switched-numbers}
use Rattle.raven_world.proofs.Steps.{tried-passed}
use Rattle.raven_world.proofs.world.World.try_switch.Goals as goal

pub rewritten-requires : goal.rewritten-requires
rewritten-requires c =
    let change = change_view c.in-Ok.field-0 in
    switched-numbers c.args.now c.args.self.now c.args.name.now change (subst (λ (W : World). NumbersUpTo (last W.store) W.slots) c.self.view_is c.self.invariant.numbers)
    (subst (λ (W : World). Ok change ≡ switch W c.args.name.now) c.self.view_is (c.in-Ok.ensures c.self.inside.base))

pub returns-else-is_lack : goal.returns-else-is_lack
returns-else-is_lack c = λ switched more.
    tried-passed c.args.self.now c.args.now switched more c.in-Err.refusal (switch c.args.self.now c.args.name.now) (sym c.is_lack.ensures ∙ c.if-is_lack.false)
    (subst (λ (W : World). IfSome (slot_answer (Err c.in-Err.refusal)) (λ change. change ≡ switch W c.args.name.now)) c.self.view_is (c.in-Err.ensures c.self.inside.base))
