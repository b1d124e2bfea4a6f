use Rattle.std.proofs.Common.{◌∙◌}
use Rattle.index_lang.proofs.GroupScans.{reduce_scans}
use Rattle.index_lang.proofs.groups.unbound_in_reduce.Goals as goal

pub returns : goal.returns
returns c r x = c.first_unbound.ensures ∙ reduce_scans x
