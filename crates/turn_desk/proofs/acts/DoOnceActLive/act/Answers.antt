use Rattle.std.proofs.Common.{rules}
use Rattle.raven_request.specs.RequestView.{request_view}
use Rattle.raven_desk.proofs.Changes.{on_err}
use Rattle.spec_desk.proofs.Lacking.{lacks_itself, lacks_step}
use Rattle.spec_desk.proofs.Later.{Follows-itself}
use Rattle.turn_desk.proofs.acts.DoOnceActLive.act.Goals as goal

pub returns-in_err-shot-clause-later : goal.returns-in_err-shot-clause-later
returns-in_err-shot-clause-later g c = Follows-itself c.args.value.now

pub returns-in_err-shot-clause-does : goal.returns-in_err-shot-clause-does
returns-in_err-shot-clause-does g c = (search rules, on_err c.from_residual.result _ (lacks_itself _ _ c.args.value.now))

pub returns-in_err-reply-clause-does : goal.returns-in_err-reply-clause-does
returns-in_err-reply-clause-does g c = (
  search rules,
  on_err c.from_residual-in_err-reply.result _
      (lacks_step (g.C.Clock.moment c.args.self.clock.now) c.now-now.result (request_view c.args.self.request) c.args.value.now c.step.new.self
      (record { below = c.now-now.ensures.below; still = c.now-now.ensures.still }) c.in_err-reply.ensures.lacks c.step.ensures.fronts),
)
