use Rattle.http_read.proofs.Lines.{end_whole}
use Rattle.http_read.proofs.line.read_end.Goals as goal

pub returns-in-Whole-clause-came : goal.returns-in-Whole-clause-came
returns-in-Whole-clause-came g c = end_whole _ _ _ _ _ c.more.invariant.same c.in-Whole.ensures c.skip.ensures
