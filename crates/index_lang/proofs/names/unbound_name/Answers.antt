use Rattle.std.proofs.Common.{◌∙◌}
use Rattle.index_lang.proofs.Scans.{map_scans}
use Rattle.index_lang.proofs.names.unbound_name.Goals as goal

pub returns : goal.returns
returns c r x = c.first_unbound.ensures ∙ map_scans x
