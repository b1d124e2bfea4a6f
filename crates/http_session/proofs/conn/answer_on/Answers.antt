use Rattle.std.proofs.Common.{ap}
use Rattle.raven_ports.specs.States.{SourceState}
use Rattle.http_session.proofs.conn.answer_on.Goals as goal

pub returns-clause-left : goal.returns-clause-left
returns-clause-left g c = ap (λ (s : SourceState). s.left) (g.met.N.Connection.giving _ _ c.give_answer.ensures.gave)

pub returns-clause-reads : goal.returns-clause-reads
returns-clause-reads g c = ap (λ (s : SourceState). s.faults) (g.met.N.Connection.giving _ _ c.give_answer.ensures.gave)
