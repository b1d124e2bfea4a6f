use Rattle.std.proofs.Common.{◌≡◌, ◌≤◌, ◌+◌, length}
use Rattle.index_lang.specs.Scan.{scan, scan_map}
use Rattle.index_lang.proofs.names.first_unbound.Given as goal

-- the pass from here on finds what it finds from the first token on, and no more clauses have begun than tokens are passed
abbrev pub invariant-loop-rest : goal.invariant-loop-rest
invariant-loop-rest l = (scan l.map l.scanned l.rest ≡ scan_map l.map l.tokens) × (l.scanned.begun + length l.rest ≤ length l.tokens)

abbrev pub decreases-loop-rest : goal.decreases-loop-rest
decreases-loop-rest l = length l.rest
