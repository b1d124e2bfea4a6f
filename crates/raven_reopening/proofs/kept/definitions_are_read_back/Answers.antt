use Rattle.raven_reopening.proofs.BodyLemmas.{auto-back, reduce-back, static-back}
use Rattle.raven_reopening.proofs.kept.definitions_are_read_back.Goals as goal

pub returns-clause-automatic : goal.returns-clause-automatic
returns-clause-automatic c = auto-back

pub returns-clause-grouped : goal.returns-clause-grouped
returns-clause-grouped c = reduce-back

pub returns-clause-by_text : goal.returns-clause-by_text
returns-clause-by_text c = λ query reduce texts. static-back query reduce texts.0 texts.1
