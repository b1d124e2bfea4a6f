use Rattle.std.proofs.Common.{◌∙◌, List, option_map, ap, sym}
use Rattle.doc_txn.specs.SettingView.{setting_of}
use Rattle.index_definition.specs.DefinitionView.{definition_view}
use Rattle.spec_server.specs.Opening.{is_too_many}
use Rattle.spec_index.specs.World.{Slot}
use Rattle.raven_world.specs.Opened.{read_as}
use Rattle.raven_world.proofs.Openings.{if-ok, too-many, unfiled, plain, defines}
use Rattle.raven_world.proofs.opening.take_row.Goals as goal
use Rattle.raven_world.proofs.opening.take_row.Goals.{then-is_too_many-via-then-is_too_many, then-is_too_many-via-else-is_too_many+then-not-is_filed}

pub returns-then-is_too_many : goal.returns-then-is_too_many
returns-then-is_too_many c =
    let d = option_map definition_view c.in_ok-body.body in
    let x = read_as c.args.row.now d in
    record {
      definition = d;
      right = c.in_ok-body.ensures;
      taken = λ base.
          let s = setting_of base c.args.limits.now in
          let told = ap (λ (slots : List Slot). is_too_many s c.args.count slots c.args.row.now) (sym c.deref.ensures.value) ∙ sym (c.is_too_many.ensures base) in
          elim c.then-is_too_many.branch [
            | then-is_too_many-via-then-is_too_many w ↦ too-many s c.args.store.now.rows c.args.count c.args.slots.now.items x (told ∙ w.if-is_too_many.true)
            | then-is_too_many-via-else-is_too_many+then-not-is_filed w ↦ unfiled s c.args.store.now.rows c.args.count c.args.slots.now.items x (sym w.is_filed.ensures ∙ w.if-not-is_filed.true)
          ];
    }

pub returns-then-not-is_defining : goal.returns-then-not-is_defining
returns-then-not-is_defining c =
    let d = option_map definition_view c.in_ok-body.body in
    let x = read_as c.args.row.now d in
    record {
      definition = d;
      right = c.in_ok-body.ensures;
      taken = λ base.
          let s = setting_of base c.args.limits.now in
          let told = ap (λ (slots : List Slot). is_too_many s c.args.count slots c.args.row.now) (sym c.deref.ensures.value) ∙ sym (c.is_too_many.ensures base) in
          plain s c.args.store.now.rows c.args.count c.args.slots.now.items x (told ∙ c.if-is_too_many.false) (sym c.is_filed.ensures ∙ c.if-not-is_filed.false) (sym c.is_defining.ensures ∙ c.if-not-is_defining.true);
    }

pub returns : goal.returns
returns c =
    let d = option_map definition_view c.in_ok-body.body in
    let x = read_as c.args.row.now d in
    if-ok c.take_index.result _ _
    (λ is_good g. record {
      definition = d;
      right = c.in_ok-body.ensures;
      taken = λ base.
          let s = setting_of base c.args.limits.now in
          let told = ap (λ (slots : List Slot). is_too_many s c.args.count slots c.args.row.now) (sym c.deref.ensures.value) ∙ sym (c.is_too_many.ensures base) in
          g ∙ defines s c.args.store.now.rows c.args.count c.args.slots.now.items x (told ∙ c.if-is_too_many.false) (sym c.is_filed.ensures ∙ c.if-not-is_filed.false) (sym c.is_defining.ensures ∙ c.if-not-is_defining.false);
    })
    c.take_index.ensures
