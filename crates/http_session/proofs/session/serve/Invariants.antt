use Rattle.std.proofs.Common.{◌≡◌, ◌<◌, ◌≤◌, ◌-◌, None}
use Rattle.http_session.proofs.Runs.{Runs}
use Rattle.http_session.proofs.session.serve.Given as goal

abbrev pub invariant-requests : goal.invariant-requests
invariant-requests g l = record {
  runs : Runs g.A.Answering.answers l.initial.answerer (g.O.Sink.state l.initial.sink).held (g.S.Source.state l.initial.source).left l.count l.answerer l.reader.taken (g.S.Source.state l.source).left (g.O.Sink.state l.sink).held;
  few : l.count < 1000;
  going : l.reader.ended ≡ None;
  kept : g.A.Answering.keeps l.initial.answerer l.answerer;
  read : (g.S.Source.state l.initial.source).faults ≤ (g.S.Source.state l.source).faults;
  wrote : (g.O.Sink.state l.initial.sink).faults ≤ (g.O.Sink.state l.sink).faults;
}

abbrev pub decreases-requests : goal.decreases-requests
decreases-requests g l = 1000 - l.count
