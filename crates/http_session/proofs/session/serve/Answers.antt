use Rattle.std.proofs.Common.{None, refl, ap, arith}
use Rattle.http_session.proofs.Runs.{runs_begin, runs_next, closes, is_enough, last_by_count, last_by_request, none_begun, not_last, refused}
use Rattle.http_session.proofs.session.serve.Goals as goal

pub returns-in_default-clause-served : goal.returns-in_default-clause-served
returns-in_default-clause-served g c = none_begun _ _ _ _ _

pub requests-init : goal.requests-init
requests-init g c = record {
  runs = runs_begin _ _ _ _ _ (ap (λ r. r.taken) c.in-Ok.ensures);
  few = omega arith;
  going = ap (λ r. r.ended) c.in-Ok.ensures;
  kept = g.met.A.Answering.keeps_none _;
  read = omega arith;
  wrote = omega arith;
}

pub returns-in-Err-clause-served : goal.returns-in-Err-clause-served
returns-in-Err-clause-served g c = refused _ _ _ _ _ _ _ _ _ None _ _ c.in-Err.end c.refuse.result c.requests.invariant.runs (c.in-Err.ensures.next c.requests.invariant.going) c.refuse.ensures.refuses

pub returns-then-count-eq-BEFORE_LAST-clause-served : goal.returns-then-count-eq-BEFORE_LAST-clause-served
returns-then-count-eq-BEFORE_LAST-clause-served g c =
    is_enough _ _ _ _ _ _ _ _ _ _ _ _ _ _ _ c.requests.invariant.runs (c.in-Ok-next.ensures.next c.requests.invariant.going) c.in-Ok-give_answer.ensures.given c.is_last-last.ensures (last_by_count _ _ c.if-count-eq-BEFORE_LAST.true) c.if-count-eq-BEFORE_LAST.true

pub returns-then-request-clause-served : goal.returns-then-request-clause-served
returns-then-request-clause-served g c =
    closes _ _ _ _ _ _ _ _ _ _ _ _ _ _ _ c.requests.invariant.runs (c.in-Ok-next.ensures.next c.requests.invariant.going) c.in-Ok-give_answer.ensures.given c.is_last-last.ensures (last_by_request _ _ c.if-request.true) (omega (arith, c.requests.invariant.few, c.if-count-eq-BEFORE_LAST.false))

pub requests-preserved : goal.requests-preserved
requests-preserved g c = record {
  runs = runs_next _ g.A.Answering.keeps _ _ _ _ _ _ _ _ _ _ _ _ _ _ _ c.requests.invariant.runs (c.in-Ok-next.ensures.next c.requests.invariant.going) c.in-Ok-give_answer.ensures.given c.is_last-last.ensures (not_last _ _ c.if-count-eq-BEFORE_LAST.false c.if-request.false) refl;
  few = omega (arith, c.requests.invariant.few, c.if-count-eq-BEFORE_LAST.false);
  going = c.in-Ok-next.ensures.on;
  kept = g.met.A.Answering.keeps_more _ _ _ c.requests.invariant.kept c.in-Ok-give_answer.ensures.kept;
  read = omega (arith, c.requests.invariant.read, c.in-Ok-next.ensures.later);
  wrote = omega (arith, c.requests.invariant.wrote, c.in-Ok-give_answer.ensures.later);
}
