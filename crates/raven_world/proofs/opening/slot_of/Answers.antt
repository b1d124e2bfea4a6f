use Rattle.std.proofs.Common.{◌∙◌, ap, option_map, sym, drop}
use Rattle.spec_data.specs.Rows.{Row}
use Rattle.index_definition.specs.DefinitionView.{definition_view}
use Rattle.raven_world.specs.declared.naming.IndexName.{IndexName}
use Rattle.raven_world.proofs.Openings.{slot-alone, slot-some}
use Rattle.raven_world.proofs.opening.slot_of.Goals as goal

pub returns-in_ok-named_slot : goal.returns-in_ok-named_slot
returns-in_ok-named_slot c = λ slots.
    slot-some c.args.store.now.rows slots c.args.row.now (definition_view c.args.body) c.name_in.result.now c.in-Some.name.name c.in_ok-named_slot.field-0
    (c.name_in.ensures ∙ ap (λ (x : Row). drop 7 x.id) c.row.view_is)
    (sym (ap (option_map (λ (n : IndexName). n.name)) c.in-Some.is) ∙ c.in_ok-name.ensures.name)
    (sym c.in_ok-is_beside.ensures ∙ c.if-branch.true)
    c.in_ok-named_slot.ensures

pub returns-else-branch : goal.returns-else-branch
returns-else-branch c = λ slots.
    slot-alone c.args.store.now.rows slots c.args.row.now (definition_view c.args.body) c.name_in.result.now c.in-Some.name.name
    (c.name_in.ensures ∙ ap (λ (x : Row). drop 7 x.id) c.row.view_is)
    (sym (ap (option_map (λ (n : IndexName). n.name)) c.in-Some.is) ∙ c.in_ok-name.ensures.name)
    (sym c.in_ok-is_beside.ensures ∙ c.if-branch.false)
