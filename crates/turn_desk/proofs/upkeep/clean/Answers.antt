use Rattle.raven_desk.proofs.Changes.{on_err}
use Rattle.turn_desk.proofs.upkeep.clean.Goals as goal

pub returns-in_err-_found-clause-lacked : goal.returns-in_err-_found-clause-lacked
returns-in_err-_found-clause-lacked g c = on_err c.from_residual.result _ c.in_err-_found.ensures.lacked
