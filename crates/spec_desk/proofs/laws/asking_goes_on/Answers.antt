use Rattle.spec_desk.proofs.Onwards.{onward_on}
use Rattle.spec_desk.proofs.laws.asking_goes_on.Goals as goal

pub returns : goal.returns
returns c = onward_on
