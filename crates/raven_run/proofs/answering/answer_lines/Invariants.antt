use Rattle.std.proofs.Common.{length, ◌≤◌}
use Rattle.raven_run.specs.Answers.{state_in}
use Rattle.raven_run.specs.Holding.{MayAllWait}
use Rattle.raven_run.proofs.Runs.{HasRun}
use Rattle.raven_run.proofs.answering.answer_lines.Given as goal

abbrev pub invariant-loop-rest : goal.invariant-loop-rest
invariant-loop-rest g l = record {
  ran : HasRun (g.C.Clock.moment l.fn.clock) l.fn.script (state_in l.fn.live l.fn.workers (g.O.Sink.state l.fn.output)) (state_in l.live l.workers (g.O.Sink.state l.output)) l.rest;
  waits : MayAllWait l.live.world l.workers;
  later : (g.O.Sink.state l.fn.output).faults ≤ (g.O.Sink.state l.output).faults;
}

abbrev pub decreases-loop-rest : goal.decreases-loop-rest
decreases-loop-rest g l = length l.rest
