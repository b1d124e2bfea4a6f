use Rattle.std.proofs.Common.{◌∙◌, refl, rules, sym}
use Rattle.raven_desk.proofs.Changes.{on_err}
use Rattle.raven_desk.specs.CourseView.{course_view}
use Rattle.raven_desk.specs.SettledView.{settled_view}
use Rattle.raven_reply.specs.ReplyView.{reply_view}
use Rattle.spec_desk.proofs.Later.{Follows-itself}
use Rattle.raven_pump.proofs.Publishing.{does, is_told, lacks, no_etags}
use Rattle.raven_pump.proofs.Waiting.{may_publish, waits_on}
use Rattle.raven_pump.proofs.publish.PublishActLive.act.Goals as goal

pub publication-requires-clause-named : goal.publication-requires-clause-named
publication-requires-clause-named g c =
    may_publish c.args.value.now.world c.args.self.number c.args.self.version.value (waits_on c.requires.0 c.args.value.now c.args.self.number c.args.self.version.value c.requires.1 c.requires.2)

pub publication-requires-clause-held : goal.publication-requires-clause-held
publication-requires-clause-held g c = (waits_on c.requires.0 c.args.value.now c.args.self.number c.args.self.version.value c.requires.1 c.requires.2).held

pub unreachable-requires : goal.unreachable-requires
unreachable-requires g c =
    is_told c.args.value.now.world c.args.self.number c.args.self.version.value.version (course_view c.in_ok-course.course) (reply_view c.in_ok-course.course.reply) c.in_ok-course.ensures.course refl
    (sym c.told.ensures ∙ c.in_default.is)

pub returns-in_err-shot-clause-later : goal.returns-in_err-shot-clause-later
returns-in_err-shot-clause-later g c = Follows-itself c.args.value.now

pub returns-in_err-course-clause-later : goal.returns-in_err-course-clause-later
returns-in_err-course-clause-later g c = Follows-itself c.args.value.now

pub returns-in_err-shot-clause-does : goal.returns-in_err-shot-clause-does
returns-in_err-shot-clause-does g c = (search rules, refl, on_err c.from_residual.result _ (refl, refl))

pub returns-in_err-course-clause-does : goal.returns-in_err-course-clause-does
returns-in_err-course-clause-does g c = (search rules, refl, on_err c.from_residual-in_err-course.result _ (refl, refl))

pub returns-in_err-settle-clause-does : goal.returns-in_err-settle-clause-does
returns-in_err-settle-clause-does g c =
    let x = c.args.value.now in
    let y = c.settle.new.self in
    let stays = lacks c.args.self.number c.args.self.version.value.version x y (course_view c.in_ok-course.course) c.in_ok-course.ensures.course c.in_err-settle.ensures.lacks in
    (search rules, no_etags x y stays, on_err c.from_residual-in_err-settle.result _ stays)

pub returns-clause-does : goal.returns-clause-does
returns-clause-does g c =
    let did = does c.args.self.number c.args.self.version.value.version c.args.value.now c.settle.new.self (course_view c.in_ok-course.course) (settled_view c.in_ok-settle.field-0) c.in-Some.turned
    c.in_ok-course.ensures.course c.in_ok-settle.ensures.settled (sym c.told.ensures ∙ c.in-Some.is) in
    (did.0, did.1, tt)
