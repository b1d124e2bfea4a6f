use Rattle.std.proofs.Common.{◌≡◌, drop}
use Rattle.std.specs.Map.{lookup}
use Rattle.std.specs.Str.{bytes_eq}
use Rattle.term_index.proofs.terms.Terms.column.Given as goal

abbrev pub invariant-loop-column : goal.invariant-loop-column
invariant-loop-column l = lookup (bytes_eq l.field) (drop l.column-index l.column-items) ≡ lookup (bytes_eq l.field) l.self
