use Rattle.std.proofs.Common.{◌≡◌, ◌++◌, drop, false, map}
use Rattle.spec_data.specs.Data.{items_of, text}
use Rattle.spec_data.specs.Written.{items_text}
use Rattle.raven_reply.proofs.text.write_names.Given as goal

abbrev pub invariant-loop-name : goal.invariant-loop-name
invariant-loop-name l = l.out.items ++ items_text l.later (items_of (map text (drop l.name-index l.names))) ≡ l.fn.out.items ++ items_text false (items_of (map text l.names))
