use Rattle.std.proofs.Common.{◌≡◌, ◌≤◌, ◌-◌, length}
use Rattle.http_read.specs.Reading.{unread}
use Rattle.http_read.proofs.head.next_head.Given as goal

abbrev pub invariant-more : goal.invariant-more
invariant-more g l = record {
  same : unread l.window (g.S.Source.state l.source).left ≡ unread l.initial.window (g.S.Source.state l.initial.source).left;
  room : 8192 ≤ length l.headers;
  later : (g.S.Source.state l.initial.source).faults ≤ (g.S.Source.state l.source).faults;
  took : g.S.Source.took l.initial.source l.source;
}

abbrev pub decreases-more : goal.decreases-more
decreases-more g l = 16384 - length l.window
