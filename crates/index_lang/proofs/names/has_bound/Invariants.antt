use Rattle.std.proofs.Common.{◌≡◌, drop}
use Rattle.std.specs.List.{list_any}
use Rattle.index_lang.specs.Bound.{is_bound_by}
use Rattle.index_lang.proofs.names.has_bound.Given as goal

abbrev pub invariant-loop-clause : goal.invariant-loop-clause
invariant-loop-clause l = list_any (is_bound_by l.name) (drop l.clause-index l.clauses) ≡ list_any (is_bound_by l.name) l.clauses
