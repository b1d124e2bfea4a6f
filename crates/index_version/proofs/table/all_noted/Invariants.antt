use Rattle.std.proofs.Common.{◌≡◌, drop}
use Rattle.spec_data.specs.Tables.{note_rows}
use Rattle.reference_track.specs.Folded.{by_folded}
use Rattle.index_version.proofs.table.all_noted.Given as goal

abbrev pub invariant-loop-row : goal.invariant-loop-row
invariant-loop-row l = note_rows (by_folded l.new) (drop l.row-index l.taken) ≡ note_rows (by_folded l.rows) l.taken
