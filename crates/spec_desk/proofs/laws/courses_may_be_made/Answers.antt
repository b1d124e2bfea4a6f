use Rattle.spec_desk.proofs.Making.{may_make}
use Rattle.spec_desk.proofs.laws.courses_may_be_made.Goals as goal

pub returns : goal.returns
returns c = may_make
