use Rattle.std.proofs.Common.{ap}
use Rattle.raven_ports.specs.States.{SinkState}
use Rattle.http_session.proofs.conn.next_on.Goals as goal

pub returns-clause-held : goal.returns-clause-held
returns-clause-held g c = ap (λ (s : SinkState). s.held) (g.met.N.Connection.taking _ _ c.next.ensures.took)

pub returns-clause-writes : goal.returns-clause-writes
returns-clause-writes g c = ap (λ (s : SinkState). s.faults) (g.met.N.Connection.taking _ _ c.next.ensures.took)
