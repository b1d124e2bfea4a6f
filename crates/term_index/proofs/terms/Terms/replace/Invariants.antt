use Rattle.std.proofs.Common.{◌≡◌, ◌++◌, length}
use Rattle.std.specs.Vec.Iter.{into_iter_items, into_iter_len}
use Rattle.spec_data.specs.Folding.{folded}
use Rattle.term_index.specs.Columns.{HasFields, fields_of, with_fields}
use Rattle.term_index.proofs.terms.Terms.replace.Given as goal

-- the columns so far have the new values, and those that are left still the old ones
abbrev pub invariant-loop-column : goal.invariant-loop-column
invariant-loop-column l = record {
  old : HasFields (folded l.fn.id) (fields_of l.old) (into_iter_items l.column-iterator);
  new : l.columns.items ++ with_fields (folded l.fn.id) (fields_of l.new) (into_iter_items l.column-iterator) ≡ with_fields (folded l.fn.id) (fields_of l.new) l.fn.self;
  left : into_iter_len l.column-iterator ≡ length (into_iter_items l.column-iterator);
}
