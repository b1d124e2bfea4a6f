use Rattle.raven_laws.proofs.AnswerLemmas.{run-fresh}
use Rattle.raven_laws.proofs.runs.fresh_answers_are_from_scratch.Goals as goal

pub returns : goal.returns
returns c = run-fresh
