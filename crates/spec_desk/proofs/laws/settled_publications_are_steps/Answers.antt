use Rattle.spec_desk.proofs.Parts.{publish_step}
use Rattle.spec_desk.proofs.laws.settled_publications_are_steps.Goals as goal

pub returns : goal.returns
returns c = publish_step
