use Rattle.raven_laws.proofs.IndexLemmas.{get-documents}
use Rattle.raven_laws.proofs.indexes.documents_are_all.Goals as goal

pub returns : goal.returns
returns c = get-documents
