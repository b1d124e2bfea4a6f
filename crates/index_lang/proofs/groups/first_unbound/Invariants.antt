use Rattle.std.proofs.Common.{◌≡◌, length}
use Rattle.index_lang.specs.ScanGroups.{scan, scan_reduce}
use Rattle.index_lang.proofs.groups.first_unbound.Given as goal

-- the pass from here on finds what it finds from the first token on
abbrev pub invariant-loop-rest : goal.invariant-loop-rest
invariant-loop-rest l = scan l.reduce l.scanned l.rest ≡ scan_reduce l.reduce l.tokens

abbrev pub decreases-loop-rest : goal.decreases-loop-rest
decreases-loop-rest l = length l.rest
