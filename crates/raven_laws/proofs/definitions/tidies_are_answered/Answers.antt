use Rattle.raven_laws.proofs.TidyLemmas.{tidy-answered}
use Rattle.raven_laws.proofs.definitions.tidies_are_answered.Goals as goal

pub returns : goal.returns
returns c = tidy-answered
