use Rattle.std.proofs.Common.{◌≡◌, ◌++◌, drop, flat_map}
use Rattle.index_tree.specs.Scope as meaning
use Rattle.index_definition.proofs.reading.add_clauses.Given as goal

abbrev pub invariant-loop-clause : goal.invariant-loop-clause
invariant-loop-clause l = l.names ++ flat_map meaning.clause_names (drop l.clause-index l.clauses) ≡ l.initial.names ++ flat_map meaning.clause_names l.clauses
