use Rattle.std.proofs.Common.{◌≡◌, ◌<◌, ◌≤◌, ◌-◌, None}
use Rattle.http_session.proofs.Runs.{Runs}
use Rattle.http_session.proofs.conn.serve_conn.Given as goal

abbrev pub invariant-requests : goal.invariant-requests
invariant-requests g l = record {
  runs : Runs g.A.Answering.answers l.initial.answerer (g.N.Sink.state l.initial.conn).held (g.N.Source.state l.initial.conn).left l.count l.answerer l.reader.taken (g.N.Source.state l.conn).left (g.N.Sink.state l.conn).held;
  few : l.count < 1000;
  going : l.reader.ended ≡ None;
  kept : g.A.Answering.keeps l.initial.answerer l.answerer;
  read : (g.N.Source.state l.initial.conn).faults ≤ (g.N.Source.state l.conn).faults;
  wrote : (g.N.Sink.state l.initial.conn).faults ≤ (g.N.Sink.state l.conn).faults;
}

abbrev pub decreases-requests : goal.decreases-requests
decreases-requests g l = 1000 - l.count
