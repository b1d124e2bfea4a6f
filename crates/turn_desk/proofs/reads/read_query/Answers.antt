use Rattle.std.proofs.Common.{Option, refl, subst}
use Rattle.std.specs.Prelude.{◌≡◌, IfSome}
use Rattle.spec_server.specs.Asking.{Ready, answer_ask}
use Rattle.spec_server.specs.Requests.{Ask}
use Rattle.raven_reply.specs.ReplyView.{reply_view}
use Rattle.raven_reply.specs.declared.reply.Reply.{Reply}
use Rattle.raven_desk.proofs.Changes.{if_err, on_err}
use Rattle.spec_desk.specs.Lived.{Follows}
use Rattle.spec_desk.proofs.Lacking.{lacks_after, lacks_none}
use Rattle.spec_desk.proofs.Later.{Follows-itself}
use Rattle.spec_desk.proofs.Onwards.{on_hold, onward_on}
use Rattle.turn_desk.specs.Seated.{stands_at}
use Rattle.turn_desk.proofs.Looking.{answered_query, looks_after}
use Rattle.turn_desk.proofs.reads.read_query.Goals as goal

pub returns-in_err-shot-clause-onward : goal.returns-in_err-shot-clause-onward
returns-in_err-shot-clause-onward g c = let l = c.look.ensures in on_hold c.args.pass.now.seen c.look.new.pass.seen l.0 l.0 l.1 (Follows-itself l.0) l.3.2

pub returns-in_err-answer-clause-onward : goal.returns-in_err-answer-clause-onward
returns-in_err-answer-clause-onward g c = let l = c.look.ensures in on_hold c.args.pass.now.seen c.look.new.pass.seen l.0 l.0 l.1 (Follows-itself l.0) l.3.2

pub returns-in_default-clause-looked : goal.returns-in_default-clause-looked
returns-in_default-clause-looked g c =
    let l = c.in_ok-shot.ensures in
    let at = stands_at (g.C.Clock.moment c.args.clock.now) in
    looks_after reply_view c.write_query.result (Ask c.args.ask.now) (at c.args.pass.now) (at c.look.new.pass) (at c.write_query.new.pass)
    (on_hold c.args.pass.now.seen c.look.new.pass.seen l.0 l.0 l.1 (Follows-itself l.0) l.3.2) refl l.3.3 c.write_query.ensures.looked

pub returns-in_default-clause-onward : goal.returns-in_default-clause-onward
returns-in_default-clause-onward g c =
    let l = c.in_ok-shot.ensures in
    onward_on c.args.pass.now.seen c.look.new.pass.seen c.write_query.new.pass.seen (on_hold c.args.pass.now.seen c.look.new.pass.seen l.0 l.0 l.1 (Follows-itself l.0) l.3.2) c.write_query.ensures.onward

pub returns-clause-looked : goal.returns-clause-looked
returns-clause-looked g c =
    let l = c.in_ok-shot.ensures in
    let at = stands_at (g.C.Clock.moment c.args.clock.now) in
    answered_query c.now-now.result c.args.ask.now l.0 c.world.result.now c.in_ok-shot.shot (reply_view c.in-Some.reply) (at c.args.pass.now) (at c.look.new.pass) (record { below = c.now-now.ensures.below; still = c.now-now.ensures.still }) l.1 l.2 c.world.ensures.world c.world.ensures.sound
    (subst (λ (o : Option Reply). IfSome o (λ r. answer_ask c.world.result.now c.args.ask.now ≡ Ready (reply_view r))) c.in-Some.is c.in_ok-answer.ensures) l.3.2 l.3.3

pub returns-clause-onward : goal.returns-clause-onward
returns-clause-onward g c = let l = c.look.ensures in on_hold c.args.pass.now.seen c.look.new.pass.seen l.0 l.0 l.1 (Follows-itself l.0) l.3.2

pub returns-in_err-shot-clause-lacked : goal.returns-in_err-shot-clause-lacked
returns-in_err-shot-clause-lacked g c =
    let l = c.look.ensures in
    let at = stands_at (g.C.Clock.moment c.args.clock.now) in
    on_err c.from_residual.result _ (lacks_none Follows (at c.args.pass.now) (Ask c.args.ask.now) l.0 (at c.look.new.pass) l.1 l.3.2 l.3.3)

pub returns-in_err-answer-clause-lacked : goal.returns-in_err-answer-clause-lacked
returns-in_err-answer-clause-lacked g c =
    let l = c.look.ensures in
    let at = stands_at (g.C.Clock.moment c.args.clock.now) in
    on_err c.from_residual-in_err-answer.result _ (lacks_none Follows (at c.args.pass.now) (Ask c.args.ask.now) l.0 (at c.look.new.pass) l.1 l.3.2 l.3.3)

pub returns-in_default-clause-lacked : goal.returns-in_default-clause-lacked
returns-in_default-clause-lacked g c =
    let l = c.in_ok-shot.ensures in
    let at = stands_at (g.C.Clock.moment c.args.clock.now) in
    if_err c.write_query.result _ _
    (lacks_after (Ask c.args.ask.now) (at c.args.pass.now) (at c.look.new.pass) (at c.write_query.new.pass) (on_hold c.args.pass.now.seen c.look.new.pass.seen l.0 l.0 l.1 (Follows-itself l.0) l.3.2) refl l.3.3)
    c.write_query.ensures.lacked
