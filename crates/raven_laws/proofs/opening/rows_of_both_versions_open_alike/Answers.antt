use Rattle.raven_laws.proofs.VersionLemmas.{form-upgraded, slots-kept}
use Rattle.raven_laws.proofs.opening.rows_of_both_versions_open_alike.Goals as goal

pub returns-clause-slots : goal.returns-clause-slots
returns-clause-slots c = slots-kept

pub returns-clause-form : goal.returns-clause-form
returns-clause-form c = form-upgraded
