use Rattle.std.proofs.Common.{◌≤◌, ◌-◌, length}
use Rattle.http_read.specs.Reading.{unread}
use Rattle.http_read.proofs.BodyBytes.{IsReadSoFar}
use Rattle.http_read.proofs.body.read_bytes.Given as goal

abbrev pub invariant-more : goal.invariant-more
invariant-more g l = record {
  so_far : IsReadSoFar l.count l.missing l.initial.body l.body (unread l.initial.window (g.S.Source.state l.initial.source).left) (unread l.window (g.S.Source.state l.source).left);
  later : (g.S.Source.state l.initial.source).faults ≤ (g.S.Source.state l.source).faults;
  took : g.S.Source.took l.initial.source l.source;
}

abbrev pub decreases-more : goal.decreases-more
decreases-more g l = l.missing - length l.window
