use Rattle.std.proofs.Common.{◌↔◌, drop, None}
use Rattle.spec_data.specs.Kept.{EtagsRise}
use Rattle.raven_ports.proofs.rising.etags_rise.Given as goal

-- all rise exactly where the rest rises from here
abbrev pub invariant-loop-row : goal.invariant-loop-row
invariant-loop-row l = EtagsRise l.last (drop l.row-index l.rows) ↔ EtagsRise None l.rows
