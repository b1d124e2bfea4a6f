use Rattle.std.proofs.Common.{arith}
use Rattle.http_read.proofs.Chunked.{goes_more, chunks_whole}
use Rattle.http_read.proofs.body.read_chunks.Goals as goal

pub returns-in-Ok-eq0-clause-came : goal.returns-in-Ok-eq0-clause-came
returns-in-Ok-eq0-clause-came g c = chunks_whole _ _ _ _ _ _ c.chunks.invariant.goes c.in-Ok-eq0.ensures.came c.in-Ok-eq0.field-0-test

pub chunks-preserved : goal.chunks-preserved
chunks-preserved g c = record {
  goes = goes_more _ _ _ _ _ _ c.chunks.invariant.goes c.in-Ok.ensures.came (omega (arith, c.in-Ok.field-0-test)) c.in-Ok.ensures.grows.0;
  short = c.in-Ok.ensures.grows.1;
  later = omega (arith, c.chunks.invariant.later, c.in-Ok.ensures.later);
  took = g.met.S.Source.took_more _ _ _ c.chunks.invariant.took c.in-Ok.ensures.took;
}
