use Rattle.std.proofs.Common.{None, Ok, Err, refl, ap, arith}
use Rattle.raven_ports.specs.declared.ports.SinkFault.TheVariants as sink_fault
use Rattle.http_read.specs.Reading.{unread}
use Rattle.http_session.proofs.Moved.{came_to, gave_from, refuses_from}
use Rattle.http_session.proofs.Runs.{runs_begin, runs_next, closes, is_enough, last_by_count, last_by_request, none_begun, not_last, refused, runs_out, stops}
use Rattle.http_session.proofs.conn.serve_conn.Goals as goal

pub returns-in_default-clause-served : goal.returns-in_default-clause-served
returns-in_default-clause-served g c = none_begun _ _ _ _ _

pub requests-init : goal.requests-init
requests-init g c = record {
  runs = runs_begin _ _ _ _ _ (ap (λ r. r.taken) c.in-Ok.ensures);
  few = omega arith;
  going = ap (λ r. r.ended) c.in-Ok.ensures;
  kept = g.met.A.Answering.keeps_none _;
  read = omega arith;
  wrote = omega arith;
}

pub returns-in-Err-clause-served : goal.returns-in-Err-clause-served
returns-in-Err-clause-served g c = refused _ _ _ _ _ _ _ _ _ None _ _ c.in-Err.end c.refuse_on.result c.requests.invariant.runs (c.in-Err.ensures.next c.requests.invariant.going) (refuses_from _ _ _ _ _ c.in-Err.ensures.held c.refuse_on.ensures.refuses)

pub returns-in-Err-Failed-clause-served : goal.returns-in-Err-Failed-clause-served
returns-in-Err-Failed-clause-served g c =
    let given = rw c.in-Err-Failed.field-0-is at c.in-Err-Failed.ensures.given in
    stops _ _ _ _ _ _ _ _ _ _ _ _ _ _ _ c.requests.invariant.runs (c.in-Ok-next_on.ensures.next c.requests.invariant.going) (gave_from g.A.Answering.answers g.A.Answering.keeps c.requests.answerer c.answer_on.new.answerer c.in-Ok-next_on.request c.is_last-last.result (g.N.Sink.state c.next_on.new.conn).held (g.N.Sink.state c.requests.conn).held (g.N.Sink.state c.answer_on.new.conn).held (Err sink_fault.Failed) c.in-Ok-next_on.ensures.held given) c.is_last-last.ensures

pub returns-in-Err-NoMemory-clause-served : goal.returns-in-Err-NoMemory-clause-served
returns-in-Err-NoMemory-clause-served g c =
    let given = rw c.in-Err-NoMemory.field-0-is at c.in-Err-NoMemory.ensures.given in
    runs_out _ _ _ _ _ _ _ _ _ _ _ _ _ _ _ c.requests.invariant.runs (c.in-Ok-next_on.ensures.next c.requests.invariant.going) (gave_from g.A.Answering.answers g.A.Answering.keeps c.requests.answerer c.answer_on.new.answerer c.in-Ok-next_on.request c.is_last-last.result (g.N.Sink.state c.next_on.new.conn).held (g.N.Sink.state c.requests.conn).held (g.N.Sink.state c.answer_on.new.conn).held (Err sink_fault.NoMemory) c.in-Ok-next_on.ensures.held given) c.is_last-last.ensures

pub returns-then-count-eq-BEFORE_LAST-clause-served : goal.returns-then-count-eq-BEFORE_LAST-clause-served
returns-then-count-eq-BEFORE_LAST-clause-served g c =
    is_enough _ _ _ _ _ _ _ _ _ _ _ _ _ _ _ c.requests.invariant.runs (c.in-Ok-next_on.ensures.next c.requests.invariant.going) (gave_from g.A.Answering.answers g.A.Answering.keeps c.requests.answerer c.answer_on.new.answerer c.in-Ok-next_on.request c.is_last-last.result (g.N.Sink.state c.next_on.new.conn).held (g.N.Sink.state c.requests.conn).held (g.N.Sink.state c.answer_on.new.conn).held (Ok tt) c.in-Ok-next_on.ensures.held c.in-Ok-answer_on.ensures.given) c.is_last-last.ensures (last_by_count _ _ c.if-count-eq-BEFORE_LAST.true) c.if-count-eq-BEFORE_LAST.true

pub returns-then-request-clause-served : goal.returns-then-request-clause-served
returns-then-request-clause-served g c =
    closes _ _ _ _ _ _ _ _ _ _ _ _ _ _ _ c.requests.invariant.runs (c.in-Ok-next_on.ensures.next c.requests.invariant.going) (gave_from g.A.Answering.answers g.A.Answering.keeps c.requests.answerer c.answer_on.new.answerer c.in-Ok-next_on.request c.is_last-last.result (g.N.Sink.state c.next_on.new.conn).held (g.N.Sink.state c.requests.conn).held (g.N.Sink.state c.answer_on.new.conn).held (Ok tt) c.in-Ok-next_on.ensures.held c.in-Ok-answer_on.ensures.given) c.is_last-last.ensures (last_by_request _ _ c.if-request.true) (omega (arith, c.requests.invariant.few, c.if-count-eq-BEFORE_LAST.false))

pub requests-preserved : goal.requests-preserved
requests-preserved g c = record {
  runs = runs_next _ g.A.Answering.keeps _ _ _ _ _ _ _ _ _ _ _ _ _ _ _ c.requests.invariant.runs (came_to (unread c.requests.reader.taken (g.N.Source.state c.requests.conn).left) (Ok c.in-Ok-next_on.request) c.next_on.new.reader.taken (g.N.Source.state c.next_on.new.conn).left (g.N.Source.state c.answer_on.new.conn).left c.in-Ok-answer_on.ensures.left (c.in-Ok-next_on.ensures.next c.requests.invariant.going)) (gave_from g.A.Answering.answers g.A.Answering.keeps c.requests.answerer c.answer_on.new.answerer c.in-Ok-next_on.request c.is_last-last.result (g.N.Sink.state c.next_on.new.conn).held (g.N.Sink.state c.requests.conn).held (g.N.Sink.state c.answer_on.new.conn).held (Ok tt) c.in-Ok-next_on.ensures.held c.in-Ok-answer_on.ensures.given) c.is_last-last.ensures (not_last _ _ c.if-count-eq-BEFORE_LAST.false c.if-request.false) refl;
  few = omega (arith, c.requests.invariant.few, c.if-count-eq-BEFORE_LAST.false);
  going = c.in-Ok-next_on.ensures.on;
  kept = g.met.A.Answering.keeps_more _ _ _ c.requests.invariant.kept c.in-Ok-answer_on.ensures.kept;
  read = omega (arith, c.requests.invariant.read, c.in-Ok-next_on.ensures.later, c.in-Ok-answer_on.ensures.reads);
  wrote = omega (arith, c.requests.invariant.wrote, c.in-Ok-answer_on.ensures.later, c.in-Ok-next_on.ensures.writes);
}
