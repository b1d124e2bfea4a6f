use Rattle.std.proofs.Common.{◌≡◌, ℕ, List, Err, IfSome, Ok, Some, option_map, refl, subst, sym}
use Rattle.spec_store.specs.Store.{last}
use Rattle.spec_index.specs.World.{World}
use Rattle.spec_server.specs.Indexing.{slot_refused}
use Rattle.doc_txn.specs.CommandView.{writer_view}
use Rattle.doc_txn.specs.SettingView.{setting_of}
use Rattle.index_definition.specs.DefinitionView.{definition_view}
use Rattle.raven_reply.specs.ReplyView.{reply_view}
use Rattle.side_by_side.specs.Changes.{MayDefine, answer_view as slot_answer, change_view, define_by}
use Rattle.raven_world.specs.Roomy.{NumbersUpTo}
use Rattle.raven_world.specs.Slotting.{refusal_view}
use Rattle.raven_world.proofs.Numbers.{defined-numbers}
use Rattle.raven_world.proofs.Steps.{slot-refused}
use Rattle.raven_world.proofs.world.World.with_index.Goals as goal

pub define-requires-clause-numbers : goal.define-requires-clause-numbers
define-requires-clause-numbers c = subst (λ n. NumbersUpTo n c.self.inside.slots.slots) (sym c.last-last.ensures.last) c.self.invariant.numbers

pub define-requires-clause-may : goal.define-requires-clause-may
define-requires-clause-may c =
    let d = c.args.definition.value in
    subst (λ (W : World). MayDefine (writer_view c.args.writer) W.slots d.name (definition_view d.body)) (sym c.self.view_is) c.requires

pub returns-in-Ok-clause-change : goal.returns-in-Ok-clause-change
returns-in-Ok-clause-change c =
    let d = c.args.definition.value in
    let made = c.in-Ok.ensures (setting_of c.self.inside.base c.self.inside.limits) c.self.inside.store refl (sym c.last-last.ensures.last) in
    subst (λ (W : World). Ok (change_view c.in-Ok.change) ≡ define_by (writer_view c.args.writer) W d.name (definition_view d.body)) c.self.view_is made

pub returns-in-Ok-clause-numbers : goal.returns-in-Ok-clause-numbers
returns-in-Ok-clause-numbers c = λ now.
    let d = c.args.definition.value in
    let made = c.in-Ok.ensures (setting_of c.self.inside.base c.self.inside.limits) c.self.inside.store refl (sym c.last-last.ensures.last) in
    defined-numbers now c.args.self.now (writer_view c.args.writer) d.name (definition_view d.body) (change_view c.in-Ok.change)
    (subst (λ (W : World). NumbersUpTo (last W.store) W.slots) c.self.view_is c.self.invariant.numbers)
    (subst (λ (W : World). Ok (change_view c.in-Ok.change) ≡ define_by (writer_view c.args.writer) W d.name (definition_view d.body)) c.self.view_is made)

pub returns-clause-change : goal.returns-clause-change
returns-clause-change c =
    let d = c.args.definition.value in
    let other = c.in-Err.ensures (setting_of c.self.inside.base c.self.inside.limits) c.self.inside.store refl (sym c.last-last.ensures.last) in
    slot-refused d.name (define_by (writer_view c.args.writer) c.args.self.now d.name (definition_view d.body)) c.in-Err.refusal (reply_view c.in_ok-slots_refused-in-Err.field-0)
    (subst (λ (W : World). IfSome (slot_answer (Err c.in-Err.refusal)) (λ change. change ≡ define_by (writer_view c.args.writer) W d.name (definition_view d.body))) c.self.view_is other)
    (subst (λ (n : List ℕ). option_map (slot_refused n) (refusal_view c.in-Err.refusal) ≡ Some (reply_view c.in_ok-slots_refused-in-Err.field-0)) c.in_ok-name.ensures c.in_ok-slots_refused-in-Err.ensures)
