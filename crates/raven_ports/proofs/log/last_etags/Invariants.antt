use Rattle.std.proofs.Common.{◌≡◌, ℕ, List, None, drop}
use Rattle.std.specs.BTreeMap.{get}
use Rattle.spec_data.specs.Folding.{folded}
use Rattle.raven_ports.specs.Logged.{id_cmp, last_of_id}
use Rattle.raven_ports.proofs.log.last_etags.Given as goal

-- what was found so far, and the rows that are left
abbrev pub invariant-loop-row : goal.invariant-loop-row
invariant-loop-row l = (q : List ℕ) → last_of_id (get id_cmp l.etags q) (folded q) (drop l.row-index l.rows) ≡ last_of_id None (folded q) l.rows
