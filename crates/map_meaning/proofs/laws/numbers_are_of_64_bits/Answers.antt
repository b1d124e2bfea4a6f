use Rattle.map_meaning.proofs.NumberLemmas.{within-fits}
use Rattle.map_meaning.proofs.laws.numbers_are_of_64_bits.Goals as goal

pub returns : goal.returns
returns c = within-fits
