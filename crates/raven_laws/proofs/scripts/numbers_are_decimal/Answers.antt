use Rattle.raven_laws.proofs.WordLemmas.{number-read}
use Rattle.raven_laws.proofs.scripts.numbers_are_decimal.Goals as goal

pub returns : goal.returns
returns c = number-read
