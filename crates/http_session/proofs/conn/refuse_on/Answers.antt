use Rattle.std.proofs.Common.{ap}
use Rattle.raven_ports.specs.States.{SourceState}
use Rattle.http_session.proofs.conn.refuse_on.Goals as goal

pub returns-clause-reads : goal.returns-clause-reads
returns-clause-reads g c = ap (λ (s : SourceState). s.faults) (g.met.N.Connection.giving _ _ c.refuse.ensures.gave)
