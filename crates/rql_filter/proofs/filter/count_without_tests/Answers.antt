use Rattle.std.proofs.Common.{◌∙◌, sym}
use Rattle.rql_filter.proofs.OneField.{all_meet, none_meet}
use Rattle.rql_filter.proofs.filter.count_without_tests.Goals as goal

pub returns-then-is_met_by : goal.returns-then-is_met_by
returns-then-is_met_by g c = c.len.ensures ∙ all_meet c.args.condition.now c.requires (g.E.Entries.entries c.args.entries.now) (sym c.is_met_by.ensures ∙ c.if-is_met_by.true)

pub returns-else-is_met_by : goal.returns-else-is_met_by
returns-else-is_met_by g c = none_meet c.args.condition.now c.requires (g.E.Entries.entries c.args.entries.now) (sym c.is_met_by.ensures ∙ c.if-is_met_by.false)
