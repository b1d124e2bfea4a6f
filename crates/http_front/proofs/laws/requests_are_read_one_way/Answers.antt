use Rattle.raven_reading.proofs.Once.{comes_once}
use Rattle.http_front.proofs.laws.requests_are_read_one_way.Goals as goal

pub returns : goal.returns
returns c = comes_once
