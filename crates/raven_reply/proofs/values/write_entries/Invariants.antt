use Rattle.std.proofs.Common.{◌≡◌, ◌++◌, drop, false}
use Rattle.spec_data.specs.Data.{entries_of}
use Rattle.spec_data.specs.Written.{entries_text}
use Rattle.raven_reply.proofs.values.write_entries.Given as goal

abbrev pub invariant-loop-entry : goal.invariant-loop-entry
invariant-loop-entry l = l.out.items ++ entries_text l.later (entries_of (drop l.entry-index l.entries)) ≡ l.fn.out.items ++ entries_text false (entries_of l.entries)
