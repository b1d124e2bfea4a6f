use Rattle.raven_laws.proofs.AgainLemmas.{reduced-parts}
use Rattle.raven_laws.proofs.indexes.rows_reduce_again.Goals as goal

pub returns : goal.returns
returns c = λ reduce parts again. reduced-parts reduce again parts
