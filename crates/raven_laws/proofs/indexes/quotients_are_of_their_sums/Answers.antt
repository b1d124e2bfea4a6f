use Rattle.raven_laws.proofs.AgainLemmas.{row-quotient}
use Rattle.raven_laws.proofs.indexes.quotients_are_of_their_sums.Goals as goal

pub returns : goal.returns
returns c = λ reduce entries key m var field by_var by again at is. row-quotient reduce again entries key m var field by_var by at is
