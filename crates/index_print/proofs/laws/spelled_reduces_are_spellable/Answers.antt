use Rattle.index_print.proofs.ReducesSpellable.{reduce_spellable}
use Rattle.index_print.proofs.laws.spelled_reduces_are_spellable.Goals as goal

pub returns : goal.returns
returns c = reduce_spellable
