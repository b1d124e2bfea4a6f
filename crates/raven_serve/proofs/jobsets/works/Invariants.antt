use Rattle.std.proofs.Common.{◌≡◌, ◌++◌, ◌+◌}
use Rattle.std.specs.Prelude.{map}
use Rattle.std.specs.Vec.Iter.{into_iter_items, into_iter_len}
use Rattle.raven_serve.specs.Works.{places, posts}
use Rattle.raven_serve.proofs.jobsets.works.Given as goal

abbrev pub invariant-loop-door : goal.invariant-loop-door
invariant-loop-door g l = record {
  can : (goal.iterator-loop-door g).can_next l.door-iterator;
  finite : (goal.iterator-loop-door g).is_finite l.door-iterator;
  works : l.works.items ≡ posts l.fn.rest (g.C.Clock.moment l.site.clock.value) l.site.name (places (map g.D.Door.state l.yielded) 0);
  all : l.fn.doors.items ≡ l.yielded ++ into_iter_items l.door-iterator;
  own : l.rest.turn ≡ l.turn.turn;
  turn : l.rest.turn ≡ l.fn.rest.turn;
  shares : l.rest.shares ≡ into_iter_len l.door-iterator + l.pumps + 1;
  seen : l.rest.seen ≡ l.fn.rest.seen;
  made : l.rest.made ≡ l.fn.rest.made;
}

abbrev pub invariant-loop-begin : goal.invariant-loop-begin
invariant-loop-begin g l = record {
  works : l.works.items ≡ posts l.fn.rest (g.C.Clock.moment l.site.clock.value) l.site.name (places (map g.D.Door.state l.fn.doors.items) l.begin);
  own : l.rest.turn ≡ l.turn.turn;
  turn : l.rest.turn ≡ l.fn.rest.turn;
  shares : l.rest.shares + l.begin ≡ l.pumps + 1;
  seen : l.rest.seen ≡ l.fn.rest.seen;
  made : l.rest.made ≡ l.fn.rest.made;
}
