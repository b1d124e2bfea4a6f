use Rattle.map_meaning.proofs.EntryLemmas.{entries_rise}
use Rattle.map_meaning.proofs.laws.entries_rise.Goals as goal

pub returns : goal.returns
returns c = entries_rise
