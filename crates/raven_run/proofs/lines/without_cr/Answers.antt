use Rattle.raven_run.proofs.LineLemmas.{other_end, no_end}
use Rattle.raven_run.proofs.lines.without_cr.Goals as goal
use Rattle.raven_run.proofs.lines.without_cr.Goals.{else-len-gt0-via-then-len-gt0+else-line-len-eq13, else-len-gt0-via-else-len-gt0}

pub returns-else-len-gt0 : goal.returns-else-len-gt0
returns-else-len-gt0 c = elim c.else-len-gt0.branch [ else-len-gt0-via-then-len-gt0+else-line-len-eq13 w ↦ other_end c.args.line.now w.if-len-gt0.true w.if-line-len-eq13.false | else-len-gt0-via-else-len-gt0 w ↦ no_end c.args.line.now w.if-len-gt0.false ]
