use Rattle.std.proofs.Common.{◌≡◌, ◌++◌, drop, false, map}
use Rattle.spec_data.specs.Data.{items_of}
use Rattle.spec_data.specs.Written.{items_text}
use Rattle.spec_server.specs.Replies.{pumping_data}
use Rattle.raven_reply.proofs.text.write_pumpings.Given as goal

abbrev pub invariant-loop-pumping : goal.invariant-loop-pumping
invariant-loop-pumping l = l.out.items ++ items_text l.later (items_of (map pumping_data (drop l.pumping-index l.pumpings))) ≡ l.fn.out.items ++ items_text false (items_of (map pumping_data l.pumpings))
