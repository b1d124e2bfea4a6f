use Rattle.std.proofs.Common.{◌≡◌, drop}
use Rattle.term_index.specs.Columns.{fields_of, value_of}
use Rattle.term_index.proofs.terms.value_of.Given as goal

abbrev pub invariant-loop-field : goal.invariant-loop-field
invariant-loop-field l = value_of l.name (fields_of (drop l.field-index l.fields)) ≡ value_of l.name (fields_of l.fields)
