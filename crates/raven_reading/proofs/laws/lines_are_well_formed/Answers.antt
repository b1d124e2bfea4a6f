use Rattle.raven_reading.proofs.Formed.{line-formed}
use Rattle.raven_reading.proofs.laws.lines_are_well_formed.Goals as goal

pub returns : goal.returns
returns c = line-formed
