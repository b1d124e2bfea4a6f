use Rattle.raven_reopening.proofs.BodyLemmas.{auto-first, reduce-first, static-first}
use Rattle.raven_reopening.proofs.kept.first_definitions_are_read_back.Goals as goal

pub returns-clause-automatic : goal.returns-clause-automatic
returns-clause-automatic c = auto-first

pub returns-clause-grouped : goal.returns-clause-grouped
returns-clause-grouped c = reduce-first

pub returns-clause-by_text : goal.returns-clause-by_text
returns-clause-by_text c = λ query reduce texts. static-first query reduce texts.0 texts.1
