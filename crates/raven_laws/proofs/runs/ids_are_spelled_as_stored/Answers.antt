use Rattle.raven_laws.proofs.AnswerLemmas.{run-entries, run-ids}
use Rattle.raven_laws.proofs.runs.ids_are_spelled_as_stored.Goals as goal

pub returns-clause-entries : goal.returns-clause-entries
returns-clause-entries c = run-entries

pub returns-clause-answers : goal.returns-clause-answers
returns-clause-answers c = run-ids
