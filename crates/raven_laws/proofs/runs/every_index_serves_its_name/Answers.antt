use Rattle.raven_laws.proofs.AnswerLemmas.{run-serves}
use Rattle.raven_laws.proofs.runs.every_index_serves_its_name.Goals as goal

pub returns : goal.returns
returns c = run-serves
