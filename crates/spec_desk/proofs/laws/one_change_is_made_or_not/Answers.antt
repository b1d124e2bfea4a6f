use Rattle.spec_desk.proofs.Parts.{alone}
use Rattle.spec_desk.proofs.laws.one_change_is_made_or_not.Goals as goal

pub returns : goal.returns
returns c = alone
