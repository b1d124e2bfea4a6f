use Rattle.raven_reading.proofs.Once.{says_once}
use Rattle.raven_reading.proofs.laws.texts_are_read_one_way.Goals as goal

pub returns : goal.returns
returns c = says_once
