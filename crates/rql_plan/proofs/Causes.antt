-- The first cause for a refusal.
use Rattle.std.proofs.Common.{◌≡◌, ℕ, pos, List, Bool, true, false, ◌&&◌, cond, Option, Some, None, Ok, unwrap_or, option_map, sym, ap, ◌∙◌}
use Rattle.std.specs.Option.{option_or}
use Rattle.spec_query.specs.Binding as is
use Rattle.spec_query.specs.Binding.{bind, check, is_in_page, page_refused, plan_of, refusal_of, unless_refused}
use Rattle.spec_query.specs.Fields.{Offered, not_grouped, not_offered}
use Rattle.spec_query.specs.Parameters.{parameter_refused}
use Rattle.spec_query.specs.Printing.{field_text}
use Rattle.spec_query.specs.Query.{Ask, Field}
use Rattle.rql_plan.specs.RefusalView.{Refuses}
use Rattle.rql_plan.specs.declared.refusal.PlanRefusal.{PlanRefusal}
use Rattle.rql_plan.specs.declared.refusal.PlanRefusal.TheVariants as r

-- WITHOUT A DEFINITION

abbrev of_parameter : Option (List ℕ) → Option is.PlanRefusal
of_parameter name = option_map is.NoParameter name

abbrev of_group : Option Field → Option is.PlanRefusal
of_group field = option_map (λ f. is.NotGrouped (field_text f)) field

abbrev of_page : Bool → Option is.PlanRefusal
of_page fits = cond fits None (Some is.BadPage)

abbrev first_of : Option (List ℕ) → Option Field → Option is.PlanRefusal → Option is.PlanRefusal
first_of name field page = option_or (of_parameter name) (option_or (of_group field) page)

abbrev has_page : Ask → Bool
has_page ask = is_in_page ask.start && is_in_page (unwrap_or ask.size (pos 0))

pub by_parameter : (ask : Ask) (name text : List ℕ) → Some name ≡ parameter_refused ask.parameters ask.query.cond → text ≡ name → check ask ≡ Some (is.NoParameter text)
by_parameter ask name text first same =
    ap (λ z. first_of z (not_grouped ask.query) (page_refused ask)) (sym first) ∙ ap (λ z. Some (is.NoParameter z)) (sym same)

pub by_group : (ask : Ask) (field : Field) (text : List ℕ) → None ≡ parameter_refused ask.parameters ask.query.cond → Some field ≡ not_grouped ask.query → text ≡ field_text field
    → check ask ≡ Some (is.NotGrouped text)
by_group ask field text passed first same =
    ap (λ z. first_of z (not_grouped ask.query) (page_refused ask)) (sym passed) ∙ ap (λ z. first_of None z (page_refused ask)) (sym first) ∙ ap (λ z. Some (is.NotGrouped z)) (sym same)

behind_groups : (ask : Ask) → None ≡ parameter_refused ask.parameters ask.query.cond → None ≡ not_grouped ask.query → check ask ≡ of_page (has_page ask)
behind_groups ask passed grouped = ap (λ z. first_of z (not_grouped ask.query) (page_refused ask)) (sym passed) ∙ ap (λ z. first_of None z (page_refused ask)) (sym grouped)

pub by_page : (ask : Ask) → None ≡ parameter_refused ask.parameters ask.query.cond → None ≡ not_grouped ask.query → (is_in_page ask.start && is_in_page (unwrap_or ask.size (pos 0))) ≡ false
    → check ask ≡ Some is.BadPage
by_page ask passed grouped outside = behind_groups ask passed grouped ∙ ap of_page outside

pub by_nothing : (ask : Ask) → None ≡ parameter_refused ask.parameters ask.query.cond → None ≡ not_grouped ask.query → (is_in_page ask.start && is_in_page (unwrap_or ask.size (pos 0))) ≡ true
    → check ask ≡ None
by_nothing ask passed grouped inside = behind_groups ask passed grouped ∙ ap of_page inside

pub ruleset checks = (by_parameter, by_group, by_page, by_nothing)

-- WITH A DEFINITION

abbrev of_field : Option Field → Option is.PlanRefusal
of_field field = option_map (λ f. is.NoField (field_text f)) field

by_check : (ask : Ask) (d : Offered) (cause : is.PlanRefusal) → check ask ≡ Some cause → refusal_of ask d ≡ Some cause
by_check ask d cause first = ap (λ z. option_or z (of_field (not_offered d ask.query))) first

pub refuses_first : (refusal : PlanRefusal) (ask : Ask) (d : Offered) → Refuses refusal (check ask) → Refuses refusal (refusal_of ask d)
refuses_first (r.NoParameter name) ask d first = by_check ask d (is.NoParameter name) first
refuses_first (r.NotGrouped name) ask d first = by_check ask d (is.NotGrouped name) first
refuses_first r.BadPage ask d first = by_check ask d is.BadPage first
refuses_first (r.NoField name) ask d first = by_check ask d (is.NoField name) first
refuses_first r.NoMemory ask d first = tt

pub by_field : (ask : Ask) (d : Offered) (field : Field) (text : List ℕ) → check ask ≡ None → Some field ≡ not_offered d ask.query → text ≡ field_text field
    → refusal_of ask d ≡ Some (is.NoField text)
by_field ask d field text passed first same =
    ap (λ z. option_or z (of_field (not_offered d ask.query))) passed ∙ ap of_field (sym first) ∙ ap (λ z. Some (is.NoField z)) (sym same)

pub bound : (ask : Ask) (d : Offered) → check ask ≡ None → None ≡ not_offered d ask.query → bind ask d ≡ Ok (plan_of ask)
bound ask d passed offered =
    ap (unless_refused (plan_of ask)) (ap (λ z. option_or z (of_field (not_offered d ask.query))) passed ∙ ap of_field (sym offered))

pub ruleset binds = (refuses_first, by_field, bound)
