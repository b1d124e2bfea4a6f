use Rattle.std.proofs.Common.{length, sym, ap, ◌∙◌}
use Rattle.std.proofs.lemmas.Bool.{eqb-true, not-true}
use Rattle.term_index.specs.Ordered.{values_named}
use Rattle.rql_filter.proofs.Values.{values_of_each, values_of_met}
use Rattle.rql_filter.proofs.ordered.is_known_of_values.Goals as goal

pub returns-then-not-is_met_by : goal.returns-then-not-is_met_by
returns-then-not-is_met_by g c = λ h.
    values_of_met c.args.field.now c.args.condition.now c.requires.field (g.E.Entries.entries c.args.entries.now) c.args.terms.now c.requires.terms
    (sym c.is_met_by.ensures ∙ not-true c.is_met_by.result h)

pub returns-else-not-is_met_by : goal.returns-else-not-is_met_by
returns-else-not-is_met_by g c = λ h.
    values_of_each c.args.field.now c.args.condition.now c.requires.field (g.E.Entries.entries c.args.entries.now) c.args.terms.now c.requires.terms
    (ap (λ f. length (values_named f c.args.terms.now)) (sym c.as_str.ensures) ∙ (sym c.len_of.ensures ∙ (eqb-true c.len_of.result c.len.result h ∙ c.len.ensures)))
