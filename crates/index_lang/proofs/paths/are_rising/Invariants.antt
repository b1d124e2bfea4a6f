use Rattle.std.proofs.Common.{◌≡◌, drop}
use Rattle.spec_server.specs.Opening.{are_rising}
use Rattle.index_lang.proofs.ReadPaths.{rising_after}
use Rattle.index_lang.proofs.paths.are_rising.Given as goal

abbrev pub invariant-loop-path : goal.invariant-loop-path
invariant-loop-path l = rising_after l.last (drop l.path-index l.more) ≡ are_rising l.paths
