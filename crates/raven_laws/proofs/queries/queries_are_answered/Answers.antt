use Rattle.raven_laws.proofs.AskLemmas.{ask-answered}
use Rattle.raven_laws.proofs.queries.queries_are_answered.Goals as goal

pub returns : goal.returns
returns c = ask-answered
