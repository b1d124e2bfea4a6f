use Rattle.std.proofs.Common.{refl, sym, subst}
use Rattle.std.specs.Prelude.{IfOk}
use Rattle.raven_request.specs.RequestView.{request_view}
use Rattle.spec_index.specs.World.{World}
use Rattle.spec_server.specs.Requests.{Read}
use Rattle.spec_server.specs.Sound.{Sound}
use Rattle.raven_run.specs.Answering.{IsHandled}
use Rattle.raven_run.specs.Holding.{MayAllWait, all_held}
use Rattle.raven_run.proofs.Performed.{cut, handled, if_err, if_ok, untouched_by}
use Rattle.raven_run.proofs.Waiting.{wait-later}
use Rattle.raven_run.proofs.answering.handle.Goals as goal

-- A REQUEST

pub returns-in-Do-clause-handled : goal.returns-in-Do-clause-handled
returns-in-Do-clause-handled g c =
    rw c.in-Do.is
    (if_ok c.perform.result _ _
    (λ text h. handled c.args.now (request_view c.in-Do.request) c.args.live.now c.perform.new.live (all_held c.args.workers.now) text.items h)
    c.perform.ensures.performed)

pub returns-in-Do-clause-cut : goal.returns-in-Do-clause-cut
returns-in-Do-clause-cut g c =
    rw c.in-Do.is
    (if_err c.perform.result _ _
    (λ h. cut c.args.now (request_view c.in-Do.request) c.args.live.now c.perform.new.live (all_held c.args.workers.now) h)
    c.perform.ensures.lacks)

pub returns-in-Do-clause-waits : goal.returns-in-Do-clause-waits
returns-in-Do-clause-waits g c = wait-later c.args.live.now.world c.perform.new.live.world c.args.workers.now c.requires.waits c.perform.ensures.later.world

-- READ

pub read-requires-clause-sound : goal.read-requires-clause-sound
read-requires-clause-sound g c = λ _ _. subst Sound (sym c.world.ensures.world) c.world.ensures.sound

pub read-requires-clause-waits : goal.read-requires-clause-waits
read-requires-clause-waits g c = λ _ _. subst (λ (V : World). MayAllWait V c.args.workers.now) (sym c.world.ensures.world) c.requires.waits

pub returns-in-Read-clause-handled : goal.returns-in-Read-clause-handled
returns-in-Read-clause-handled g c =
    let keeper = c.args.live.now.keeper in
    rw c.in-Read.is
    (subst (λ (V : World). IfOk c.read.result (λ text. IsHandled (Read c.in-Read.worker c.in-Read.max c.in-Read.index) c.args.now keeper keeper
    (record { world = V; held = all_held c.args.workers.now }) (record { world = V; held = all_held c.read.new.workers }) text.items))
    c.world.ensures.world (c.read.ensures.handled keeper c.args.now))

pub returns-in-Read-clause-cut : goal.returns-in-Read-clause-cut
returns-in-Read-clause-cut g c =
    if_err c.read.result _ _ (λ same. untouched_by _ c.args.now c.args.live.now c.args.live.now c.args.workers.now c.read.new.workers same (refl, refl)) c.read.ensures.kept

pub returns-in-Read-clause-waits : goal.returns-in-Read-clause-waits
returns-in-Read-clause-waits g c = subst (λ (V : World). MayAllWait V c.read.new.workers) c.world.ensures.world c.read.ensures.waits

-- PUBLISH

pub returns-in-Publish-clause-handled : goal.returns-in-Publish-clause-handled
returns-in-Publish-clause-handled g c = rw c.in-Publish.is (c.publish.ensures.handled c.args.now)

pub returns-in-Publish-clause-cut : goal.returns-in-Publish-clause-cut
returns-in-Publish-clause-cut g c =
    if_err c.publish.result _ _ (λ same. untouched_by _ c.args.now c.args.live.now c.publish.new.live c.args.workers.now c.publish.new.workers same.0 (same.1, same.2)) c.publish.ensures.kept
