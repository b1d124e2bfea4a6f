use Rattle.std.proofs.Common.{◌≡◌, ◌++◌, drop, string_bytes}
use Rattle.query_optimizer.proofs.Listed.{and_before}
use Rattle.query_optimizer.proofs.naming.add_names.Given as goal

-- those that are left have still to be added
abbrev pub invariant-loop-name : goal.invariant-loop-name
invariant-loop-name l = string_bytes l.text ++ and_before (drop l.name-index l.more) ≡ string_bytes l.initial.text ++ and_before l.more
