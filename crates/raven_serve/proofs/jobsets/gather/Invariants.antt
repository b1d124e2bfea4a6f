use Rattle.std.proofs.Common.{◌≡◌, ◌++◌, ◌+◌, ◌≤◌, vec_len, vec_capacity}
use Rattle.std.specs.Prelude.{All, map, ◌||◌}
use Rattle.std.specs.Vec.Iter.{into_iter_items, into_iter_len}
use Rattle.raven_serve.specs.Works.{Belongs, any_failed, doors_in, join_all}
use Rattle.raven_serve.proofs.jobsets.gather.Given as goal

abbrev pub invariant-loop-out : goal.invariant-loop-out
invariant-loop-out g l = record {
  can : (goal.iterator-loop-out g).can_next l.out-iterator;
  finite : (goal.iterator-loop-out g).is_finite l.out-iterator;
  own : l.all.turn ≡ l.turn.turn;
  outs : All (Belongs l.turn.turn) (into_iter_items l.out-iterator);
  pass : join_all l.fn.rest l.fn.outs.items ≡ join_all l.all (into_iter_items l.out-iterator);
  doors : doors_in l.fn.outs.items ≡ map g.D.Door.state l.doors.items ++ doors_in (into_iter_items l.out-iterator);
  failed : any_failed l.fn.outs.items ≡ (l.any || any_failed (into_iter_items l.out-iterator));
  room : vec_len l.doors + into_iter_len l.out-iterator ≤ vec_capacity l.doors;
}
