use Rattle.index_print.proofs.ReduceSpells.{reduce_spelled}
use Rattle.index_print.proofs.laws.printed_reduces_are_spelled.Goals as goal

pub returns : goal.returns
returns c = reduce_spelled
