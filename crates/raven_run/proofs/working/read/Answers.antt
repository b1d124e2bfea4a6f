use Rattle.std.proofs.Common.{subst}
use Rattle.raven_world.specs.Publishing.{IsRead}
use Rattle.raven_run.specs.Holding.{MayAllWait}
use Rattle.raven_run.proofs.Performed.{either_way, if_both}
use Rattle.raven_run.proofs.Waiting.{wait-after}
use Rattle.raven_run.proofs.Worked.{reads-as}
use Rattle.raven_run.proofs.working.read.Goals as goal

pub returns-in-Some-clause-handled : goal.returns-in-Some-clause-handled
returns-in-Some-clause-handled g c = λ keeper now.
    let at = subst (IsRead c.args.world.now c.args.max c.args.index.now) c.in-Some.is c.in_ok-batch.ensures in
    if_both c.hold.result _ _ _
    (λ text t holds. reads-as keeper now c.args.worker c.args.max c.args.index.now c.args.world.now c.args.workers.now c.hold.new.workers c.in-Some.batch text.items at holds t)
    c.hold.ensures.written c.hold.ensures.holds

pub returns-in-Some-clause-waits : goal.returns-in-Some-clause-waits
returns-in-Some-clause-waits g c =
    let W = c.args.world.now in
    let at = subst (IsRead W c.args.max c.args.index.now) c.in-Some.is c.in_ok-batch.ensures in
    either_way c.hold.result (MayAllWait W) c.hold.new.workers _ c.args.workers.now c.hold.ensures.holds c.hold.ensures.kept
    (wait-after W c.args.worker c.args.max c.args.index.now c.in-Some.batch c.args.workers.now c.requires.sound at c.requires.waits) c.requires.waits
