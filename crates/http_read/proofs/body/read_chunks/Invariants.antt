use Rattle.std.proofs.Common.{◌≤◌, ◌-◌, length}
use Rattle.http_read.specs.Reading.{unread}
use Rattle.http_read.proofs.Chunked.{Goes}
use Rattle.http_read.proofs.body.read_chunks.Given as goal

abbrev pub invariant-chunks : goal.invariant-chunks
invariant-chunks g l = record {
  goes : Goes (unread l.initial.window (g.S.Source.state l.initial.source).left) (unread l.window (g.S.Source.state l.source).left) l.body;
  short : length l.body ≤ 4194304;
  later : (g.S.Source.state l.initial.source).faults ≤ (g.S.Source.state l.source).faults;
  took : g.S.Source.took l.initial.source l.source;
}

abbrev pub decreases-chunks : goal.decreases-chunks
decreases-chunks g l = 4194304 - length l.body
