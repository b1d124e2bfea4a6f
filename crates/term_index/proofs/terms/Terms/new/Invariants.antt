use Rattle.std.proofs.Common.{◌≡◌, ◌++◌, drop}
use Rattle.term_index.specs.Columns.{no_values}
use Rattle.term_index.proofs.terms.Terms.new.Given as goal

abbrev pub invariant-loop-name : goal.invariant-loop-name
invariant-loop-name l = l.columns.items ++ no_values (drop l.name-index l.name-items) ≡ no_values l.fields
