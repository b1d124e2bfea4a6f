use Rattle.std.proofs.Common.{◌≡◌, ◌+◌, ◌-◌, length, string_bytes}
use Rattle.spec_index.specs.Optimiser.{free_name}
use Rattle.query_optimizer.proofs.free_name.first_free.Given as goal

-- what is found from here on is what is found from the first try on
abbrev pub invariant-loop-tries : goal.invariant-loop-tries
invariant-loop-tries l = free_name (length l.slots - l.tries) (l.tries + 2) (string_bytes l.name) l.slots ≡ free_name (length l.slots) 2 (string_bytes l.name) l.slots
