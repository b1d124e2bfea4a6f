use Rattle.raven_laws.proofs.AskLemmas.{asked-shape}
use Rattle.raven_laws.proofs.queries.shapes_are_asked.Goals as goal

pub returns : goal.returns
returns c = asked-shape
