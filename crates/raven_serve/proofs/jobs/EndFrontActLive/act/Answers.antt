use Rattle.raven_serve.proofs.Fronting.{one_less}
use Rattle.raven_serve.proofs.jobs.EndFrontActLive.act.Goals as goal

pub returns-clause-later : goal.returns-clause-later
returns-clause-later g c = one_less c.args.value.now c.end_front.new.self c.end_front.ensures
