use Rattle.index_print.proofs.TreesSpellable.{expression_spellable}
use Rattle.index_print.proofs.laws.spelled_expressions_are_spellable.Goals as goal

pub returns : goal.returns
returns c = expression_spellable
