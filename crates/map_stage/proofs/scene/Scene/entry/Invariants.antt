use Rattle.std.proofs.Common.{◌≡◌, [], drop}
use Rattle.index_tree.specs.Meaning.{fields_with}
use Rattle.map_stage.specs.Reached.{bindings_of, from_there}
use Rattle.map_stage.specs.Words.{HasWords}
use Rattle.map_stage.proofs.scene.Scene.entry.Given as goal

abbrev pub invariant-loop-member : goal.invariant-loop-member
invariant-loop-member g l = record {
  words : HasWords l.entry;
  fields : from_there l.asked (fields_with (g.T.Lookup.rows l.self.rows.now) (bindings_of l.self.bound.items) l.entry (drop l.member-index l.members))
      ≡ from_there l.fn.asked (fields_with (g.T.Lookup.rows l.self.rows.now) (bindings_of l.self.bound.items) [] l.members);
}
