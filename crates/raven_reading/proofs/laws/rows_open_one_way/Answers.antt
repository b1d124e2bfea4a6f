use Rattle.raven_reading.proofs.Once.{opens_once, held_once, held_some}
use Rattle.raven_reading.proofs.laws.rows_open_one_way.Goals as goal

pub returns-clause-rows : goal.returns-clause-rows
returns-clause-rows c = opens_once

pub returns-clause-held : goal.returns-clause-held
returns-clause-held c = held_once

pub returns-clause-some : goal.returns-clause-some
returns-clause-some c = held_some
