use Rattle.http_read.proofs.Lines.{line_fits}
use Rattle.http_read.proofs.line.line_status.Goals as goal

pub returns-in-Ok-Complete-clause-fits : goal.returns-in-Ok-Complete-clause-fits
returns-in-Ok-Complete-clause-fits c =
    let h = rw c.in-Ok-Complete.field-0-is at c.in-Ok-Complete.ensures.complete in
    (line_fits c.args.window.now c.in-Ok-Complete.len c.in-Ok-Complete.size (rw c.prefix-bytes.ensures at h)).1
