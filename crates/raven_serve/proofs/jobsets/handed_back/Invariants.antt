use Rattle.std.proofs.Common.{◌≡◌, ◌++◌}
use Rattle.std.specs.Prelude.{map}
use Rattle.std.specs.Vec.Iter.{into_iter_items}
use Rattle.raven_serve.specs.Works.{undone}
use Rattle.raven_serve.proofs.jobsets.handed_back.Given as goal

abbrev pub invariant-loop-work : goal.invariant-loop-work
invariant-loop-work g l = record {
  outs : l.outs.items ≡ map undone l.yielded;
  all : l.fn.works.items ≡ l.yielded ++ into_iter_items l.work-iterator;
}
