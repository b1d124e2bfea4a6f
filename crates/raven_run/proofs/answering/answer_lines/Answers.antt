use Rattle.std.proofs.Common.{inr, arith, subst, sym}
use Rattle.raven_run.specs.Answering.{IsAnswered}
use Rattle.raven_run.specs.Answers.{state_in}
use Rattle.raven_run.proofs.Runs.{answered, runs_on, stops_in}
use Rattle.raven_run.proofs.answering.answer_lines.Goals as goal

pub returns-in-Err-clause-stopped : goal.returns-in-Err-clause-stopped
returns-in-Err-clause-stopped g c = λ _.
    let after = state_in c.answer.new.live c.answer.new.workers (g.O.Sink.state c.give_all.new.sink) in
    stops_in _ _ _ _ after _ _ _ _ _ c.loop-rest.invariant.ran c.next_line.ensures.line
    (answered _ _ after _ _ _ c.now-now.ensures.below c.now-now.ensures.still (subst (IsAnswered _ _ _ _ _ _) (sym c.deref.ensures.value) c.in-Ok.ensures.answered))
    c.in-Err.ensures.err

pub returns-in-Err-clause-memory : goal.returns-in-Err-clause-memory
returns-in-Err-clause-memory g c = λ _.
    let after = state_in c.answer.new.live c.answer.new.workers (g.O.Sink.state c.give_all.new.sink) in
    inr
    (stops_in _ _ _ _ after _ _ _ _ _ c.loop-rest.invariant.ran c.next_line.ensures.line
    (answered _ _ after _ _ _ c.now-now.ensures.below c.now-now.ensures.still (subst (IsAnswered _ _ _ _ _ _) (sym c.deref.ensures.value) c.in-Ok.ensures.answered))
    c.in-Err.ensures.err)

pub loop-rest-preserved : goal.loop-rest-preserved
loop-rest-preserved g c =
    let after = state_in c.answer.new.live c.answer.new.workers (g.O.Sink.state c.give_all.new.sink) in
    record {
      ran = runs_on _ _ _ _ after _ _ _ _ _ c.loop-rest.invariant.ran c.next_line.ensures.line
          (answered _ _ after _ _ _ c.now-now.ensures.below c.now-now.ensures.still (subst (IsAnswered _ _ _ _ _ _) (sym c.deref.ensures.value) c.in-Ok.ensures.answered))
          c.in_default-give_all.ensures.ok;
      waits = c.answer.ensures.waits;
      later = let a = c.loop-rest.invariant.later in let b = c.give_all.ensures.later in omega arith;
    }
