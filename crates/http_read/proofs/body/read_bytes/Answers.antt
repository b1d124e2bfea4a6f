use Rattle.http_read.proofs.BodyBytes.{bytes_whole}
use Rattle.http_read.proofs.body.read_bytes.Goals as goal

pub returns-then-missing-eq0-clause-came : goal.returns-then-missing-eq0-clause-came
returns-then-missing-eq0-clause-came g c = bytes_whole _ _ _ _ _ _ _ _ _ _ c.more.invariant.so_far c.prefix-part.ensures c.in-Ok.ensures.ok c.skip.ensures c.if-missing-eq0.true
