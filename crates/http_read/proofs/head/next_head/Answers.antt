use Rattle.std.proofs.Common.{arith, subst, Err}
use Rattle.http_read.specs.Reading.{IsHeadRead}
use Rattle.http_read.proofs.Unread.{ended_now}
use Rattle.http_read.proofs.HeadLemmas.{head_whole, head_err, head_large, head_cut, head_ended}
use Rattle.http_read.proofs.head.next_head.Goals as goal

pub returns-in-Ok-Some-clause-came : goal.returns-in-Ok-Some-clause-came
returns-in-Ok-Some-clause-came g c =
    let h = rw c.as_slice.ensures.value at (rw c.in-Ok-Some.field-0-is at c.in-Ok-Some.ensures) in
    head_whole _ _ _ _ _ _ c.more.invariant.same h c.as_slice.ensures.within c.skip.ensures

pub returns-in-Err-clause-came : goal.returns-in-Err-clause-came
returns-in-Err-clause-came g c = let h = subst (λ b. IsHeadRead b (Err c.in-Err.end)) c.as_slice.ensures.value c.in-Err.ensures in
    head_err _ _ _ _ c.in-Err.end c.more.invariant.same h c.as_slice.ensures.within

pub returns-then-len-eq-MAX_HEAD-clause-came : goal.returns-then-len-eq-MAX_HEAD-clause-came
returns-then-len-eq-MAX_HEAD-clause-came g c =
    let h = rw c.as_slice.ensures.value at (rw c.in-Ok-None.field-0-is at c.in-Ok-None.ensures) in
    head_large _ _ _ _ c.more.invariant.same h (omega arith)

pub returns-then-len-eq0-clause-came : goal.returns-then-len-eq0-clause-came
returns-then-len-eq0-clause-came g c = head_ended _ _ _ _ c.more.invariant.same (omega arith) (ended_now _ _ c.in-Ok-eq0.field-0-test c.in-Ok-eq0.ensures.end)

pub returns-in-Ok-eq0-clause-came : goal.returns-in-Ok-eq0-clause-came
returns-in-Ok-eq0-clause-came g c =
    let h = rw c.as_slice.ensures.value at (rw c.in-Ok-None.field-0-is at c.in-Ok-None.ensures) in
    head_cut _ _ _ _ c.more.invariant.same h (omega arith) (omega arith) (ended_now _ _ c.in-Ok-eq0.field-0-test c.in-Ok-eq0.ensures.end)
