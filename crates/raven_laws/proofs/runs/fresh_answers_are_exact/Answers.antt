use Rattle.raven_laws.proofs.MatchLemmas.{run-exact}
use Rattle.raven_laws.proofs.runs.fresh_answers_are_exact.Goals as goal

pub returns : goal.returns
returns c = run-exact
