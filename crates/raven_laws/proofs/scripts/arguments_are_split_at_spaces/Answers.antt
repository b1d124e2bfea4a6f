use Rattle.raven_laws.proofs.WordLemmas.{word-split}
use Rattle.raven_laws.proofs.scripts.arguments_are_split_at_spaces.Goals as goal

pub returns : goal.returns
returns c = word-split
