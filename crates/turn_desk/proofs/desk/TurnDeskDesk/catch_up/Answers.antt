use Rattle.std.proofs.Common.{refl}
use Rattle.spec_desk.proofs.Onwards.{goes_on_itself, rests}
use Rattle.turn_desk.specs.Seated.{stands_seated}
use Rattle.turn_desk.proofs.desk.TurnDeskDesk.catch_up.Goals as goal

pub returns-clause-went : goal.returns-clause-went
returns-clause-went g c = λ x e. let d = stands_seated c.args.self.now in rests x d d refl e refl

pub returns-clause-goes_on : goal.returns-clause-goes_on
returns-clause-goes_on g c = goes_on_itself (stands_seated c.args.self.now)
