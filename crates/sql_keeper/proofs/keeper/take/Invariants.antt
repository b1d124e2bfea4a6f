use Rattle.std.proofs.Common.{◌≡◌, ◌≤◌, length}
use Rattle.spec_data.specs.Kept.{EtagsRise, last_kept}
use Rattle.sql_keeper.proofs.keeper.take.Given as goal

-- the etags rise so far, up to the last
abbrev pub invariant-loop : goal.invariant-loop
invariant-loop g l = record {
  rising : EtagsRise l.fn.after l.found;
  last : last_kept l.fn.after l.found ≡ l.last;
  most : length l.found ≤ l.counter;
}
