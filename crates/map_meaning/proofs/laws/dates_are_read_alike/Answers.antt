use Rattle.map_meaning.proofs.DateLemmas.{read_alike}
use Rattle.map_meaning.proofs.laws.dates_are_read_alike.Goals as goal

pub returns : goal.returns
returns c = read_alike
