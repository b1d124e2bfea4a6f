use Rattle.http_front.proofs.Formed.{http-formed}
use Rattle.http_front.proofs.laws.requests_are_well_formed.Goals as goal

pub returns : goal.returns
returns c = http-formed
