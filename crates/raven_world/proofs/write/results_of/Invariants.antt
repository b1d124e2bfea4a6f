use Rattle.std.proofs.Common.{◌≡◌, ◌++◌, length, map}
use Rattle.spec_server.specs.Writes.{results_of}
use Rattle.doc_txn.specs.CommandView.{command_view}
use Rattle.raven_reply.specs.ReplyView.{result_view}
use Rattle.raven_world.proofs.write.results_of.Given as goal

abbrev pub invariant-loop-left : goal.invariant-loop-left
invariant-loop-left l = map result_view l.results.items ++ results_of l.fn.base l.fn.store (map command_view l.left) l.taken ≡ results_of l.fn.base l.fn.store (map command_view l.fn.commands) l.fn.etags

abbrev pub decreases-loop-left : goal.decreases-loop-left
decreases-loop-left l = length l.left
