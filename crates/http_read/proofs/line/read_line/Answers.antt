use Rattle.std.proofs.Common.{None, arith}
use Rattle.http_read.proofs.Lines.{line_whole, line_bad, line_long, line_cut}
use Rattle.http_read.proofs.Unread.{ended_now}
use Rattle.http_read.proofs.line.read_line.Goals as goal

pub returns-in-Whole-clause-came : goal.returns-in-Whole-clause-came
returns-in-Whole-clause-came g c = line_whole _ _ _ _ _ _ _ c.more.invariant.same c.in-Whole.ensures.status c.skip.ensures

pub returns-in-Bad-clause-came : goal.returns-in-Bad-clause-came
returns-in-Bad-clause-came g c = line_bad _ _ _ _ None c.more.invariant.same c.in-Bad.ensures.status

pub returns-then-len-ge-MAX_LINE-clause-came : goal.returns-then-len-ge-MAX_LINE-clause-came
returns-then-len-ge-MAX_LINE-clause-came g c = line_long _ _ _ _ None c.more.invariant.same c.in-Partial.ensures.status.0 (omega arith)

pub returns-in-Ok-eq0-clause-came : goal.returns-in-Ok-eq0-clause-came
returns-in-Ok-eq0-clause-came g c = line_cut _ _ _ _ None c.more.invariant.same c.in-Partial.ensures.status (omega arith) (ended_now _ _ c.in-Ok-eq0.field-0-test c.in-Ok-eq0.ensures.end)
