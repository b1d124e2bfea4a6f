use Rattle.std.proofs.Common.{◌≡◌, ◌+◌, ◌-◌, ◌++◌, length, map}
use Rattle.spec_server.specs.Several.{parts_from}
use Rattle.multi_map.proofs.parts.parts_of.Given as goal

-- those that are left have still to be added
abbrev pub invariant-loop-before : goal.invariant-loop-before
invariant-loop-before l = map (λ s. s.now) l.parts.items ++ parts_from (length l.slots - l.before) (l.before + 1) l.name l.slots ≡ parts_from (length l.slots) 1 l.name l.slots
