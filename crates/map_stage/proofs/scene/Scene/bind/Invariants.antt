use Rattle.std.proofs.Common.{◌≡◌, drop}
use Rattle.index_tree.specs.Meaning.{bound_after}
use Rattle.map_stage.specs.Reached.{bindings_of, from_there}
use Rattle.map_stage.proofs.scene.Scene.bind.Given as goal

abbrev pub invariant-loop-clause : goal.invariant-loop-clause
invariant-loop-clause g l = record {
  left : from_there l.asked (bound_after (g.T.Lookup.rows l.self.rows.now) (bindings_of l.self.bound.items) (drop l.clause-index l.clauses))
      ≡ from_there l.fn.asked (bound_after (g.T.Lookup.rows l.fn.self.rows.now) (bindings_of l.fn.self.bound.items) l.clauses);
  rows : l.self.rows.now ≡ l.fn.self.rows.now;
}
