use Rattle.std.proofs.Common.{Err, ap, refl}
use Rattle.raven_run.proofs.Ended.{ends_idle, ends_unopened, ends_unread, has_begun}
use Rattle.raven_run.proofs.running.run.Goals as goal

pub returns-in-Err-clause-ends : goal.returns-in-Err-clause-ends
returns-in-Err-clause-ends g c =
    let read = c.in-Err.ensures in
    ends_unread _ c.in-Err.end read.unread (λ is. read.large (ap Err is)) (λ is. read.within (ap Err is)) (λ is. read.cause (ap Err is)) refl refl

pub returns-in-Err-open-clause-ends : goal.returns-in-Err-open-clause-ends
returns-in-Err-open-clause-ends g c =
    let fails = c.in-Err-open.ensures in
    ends_unopened _ c.in-Ok.script.items c.in-Err-open.field-0.fault _ c.end_unopened-end.ensures c.in-Ok.ensures.all c.in-Ok.ensures.size refl fails.unopened fails.fault fails.bad

pub returns-clause-ends : goal.returns-clause-ends
returns-clause-ends g c =
    let lines = c.answer_lines-answered.ensures in
    ends_idle _ c.deref.result.now c.in-Ok-open.live c.answer_lines-answered.new.live c.idle-workers.result c.answer_lines-answered.new.workers _ _ c.idle-workers.ensures c.end_answered-end.ensures
    (has_begun _ c.in-Ok.script.items _ _ c.deref.ensures.value c.in-Ok.ensures.all c.in-Ok.ensures.size c.in-Ok-open.ensures.opens c.in-Ok-open.ensures.loads)
    (record { keeper = c.into_keeper-keeper.ensures.keeper; keeps = c.into_keeper-keeper.ensures.keeps })
    lines.answered lines.stopped lines.memory lines.cause
