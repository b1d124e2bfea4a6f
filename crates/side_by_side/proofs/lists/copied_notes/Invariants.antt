use Rattle.std.proofs.Common.{◌≡◌, take}
use Rattle.side_by_side.proofs.lists.copied_notes.Given as goal

abbrev pub invariant-loop-note : goal.invariant-loop-note
invariant-loop-note l = l.new.items ≡ take l.note-index l.notes
