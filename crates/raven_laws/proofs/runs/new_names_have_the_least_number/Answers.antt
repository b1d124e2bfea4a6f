use Rattle.raven_laws.proofs.ChoiceLemmas.{first_free-least}
use Rattle.raven_laws.proofs.runs.new_names_have_the_least_number.Goals as goal

pub returns : goal.returns
returns c = first_free-least
