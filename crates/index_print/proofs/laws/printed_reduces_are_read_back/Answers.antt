use Rattle.index_print.proofs.ReduceSpells.{reduce_read_back}
use Rattle.index_print.proofs.laws.printed_reduces_are_read_back.Goals as goal

pub returns : goal.returns
returns c = reduce_read_back
