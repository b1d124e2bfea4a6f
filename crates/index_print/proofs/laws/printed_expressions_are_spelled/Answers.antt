use Rattle.index_print.proofs.ExpressionSpells.{expression_spelled}
use Rattle.index_print.proofs.laws.printed_expressions_are_spelled.Goals as goal

pub returns : goal.returns
returns c = λ x h place s apart. let after = expression_spelled x h place s apart in (after.behind, after.spells)
