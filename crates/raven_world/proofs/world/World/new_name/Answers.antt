use Rattle.std.proofs.Common.{◌<◌, ◌^◌, ◌∙◌, ap, length, sym, subst, arith}
use Rattle.std.proofs.lemmas.Result.{IfOk-weaker}
use Rattle.spec_index.specs.Optimiser.{name_of}
use Rattle.spec_index.specs.World.{World, serving}
use Rattle.index_definition.specs.ShapeView.{shape_view}
use Rattle.raven_laws.proofs.NameLemmas.{name_of-free}
use Rattle.raven_world.proofs.Steps.{few_slots}
use Rattle.raven_world.proofs.world.World.new_name.Goals as goal

pub auto_name-requires : goal.auto_name-requires
auto_name-requires c =
    let most = subst (λ (V : World). V.setting.max_slots < 2 ^ 32) c.self.view_is c.self.invariant.slots in
    let own = c.list.ensures.slots ∙ ap (λ (V : World). V.slots) c.self.view_is in
    let few = few_slots c.args.self.now.setting.max_slots (length c.args.self.now.slots) c.requires most in
    subst (λ xs. length xs < 2 ^ 32) (sym own) few

pub returns-clause-free : goal.returns-clause-free
returns-clause-free c =
    let W = c.args.self.now in
    let shape = shape_view c.args.shape.now in
    let number = c.next_number.result in
    let most = subst (λ (V : World). V.setting.max_slots < 2 ^ 32) c.self.view_is c.self.invariant.slots in
    let own = c.list.ensures.slots ∙ ap (λ (V : World). V.slots) c.self.view_is in
    let few = few_slots W.setting.max_slots (length W.slots) c.requires most in
    let free = name_of-free W.slots number shape (omega (arith, few)) in
    IfOk-weaker c.auto_name.result _ _ (λ name h. ap (serving W.slots) (h ∙ ap (λ xs. name_of xs number shape) own) ∙ free) c.auto_name.ensures
