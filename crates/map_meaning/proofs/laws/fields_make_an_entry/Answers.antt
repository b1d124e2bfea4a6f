use Rattle.map_meaning.proofs.EqualEntries.{equal_entries}
use Rattle.map_meaning.proofs.laws.fields_make_an_entry.Goals as goal

pub returns : goal.returns
returns c = equal_entries
