use Rattle.raven_reading.proofs.Once.{line_once}
use Rattle.raven_reading.proofs.laws.lines_are_read_one_way.Goals as goal

pub returns : goal.returns
returns c = line_once
