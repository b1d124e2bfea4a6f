use Rattle.raven_laws.proofs.NameLemmas.{run-free}
use Rattle.raven_laws.proofs.runs.new_names_are_free.Goals as goal

pub returns : goal.returns
returns c = run-free
