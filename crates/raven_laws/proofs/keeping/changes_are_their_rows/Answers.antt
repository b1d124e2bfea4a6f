use Rattle.raven_laws.proofs.KeepLemmas.{changes-rows}
use Rattle.raven_laws.proofs.keeping.changes_are_their_rows.Goals as goal

pub returns : goal.returns
returns c = changes-rows
