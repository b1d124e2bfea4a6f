use Rattle.spec_desk.proofs.Parts.{publish_may}
use Rattle.spec_desk.proofs.laws.publications_may_be_made.Goals as goal

pub returns : goal.returns
returns c = publish_may
