use Rattle.std.proofs.Common.{◌≡◌, ◌++◌, ◌∙◌, [], ap, append-nil, false, is_some, map, sym, unwrap_or}
use Rattle.raven_value.specs.ScalarView.{scalar_view}
use Rattle.raven_value.specs.View.{data_of}
use Rattle.spec_query.specs.Parameters.{items_in, plain_scalars}
use Rattle.rql_plan.proofs.Plain.{no_items}
use Rattle.rql_plan.proofs.values.add_items_in.Goals as goal

pub returns-else-are_plain : goal.returns-else-are_plain
returns-else-are_plain c =
    let plain = sym (c.are_plain.ensures ∙ ap (λ ds. is_some (plain_scalars ds)) c.as_slice.ensures) ∙ c.if-are_plain.false in
    sym (append-nil (map scalar_view c.args.items.now)) ∙ ap (λ more. map scalar_view c.args.items.now ++ more) (sym (ap (λ v. unwrap_or (items_in (data_of v)) []) c.in-List.is ∙ no_items c.in-List.values plain))
