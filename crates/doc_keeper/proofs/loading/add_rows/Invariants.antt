use Rattle.std.proofs.Common.{◌≡◌, drop}
use Rattle.doc_keeper.specs.Reading.{read_on}
use Rattle.doc_keeper.proofs.loading.add_rows.Given as goal

-- the rest is read after what was read so far
abbrev pub invariant-loop-kept : goal.invariant-loop-kept
invariant-loop-kept l = read_on l.max l.rows (drop l.kept-index l.page) ≡ read_on l.max l.fn.rows l.page
