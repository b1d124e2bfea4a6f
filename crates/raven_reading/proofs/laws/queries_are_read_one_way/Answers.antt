use Rattle.raven_reading.proofs.Once.{query_once}
use Rattle.raven_reading.proofs.laws.queries_are_read_one_way.Goals as goal

pub returns : goal.returns
returns c = query_once
