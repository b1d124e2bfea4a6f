use Rattle.std.proofs.Common.{◌≡◌, ◌++◌, drop, false, map}
use Rattle.spec_data.specs.Data.{items_of}
use Rattle.spec_data.specs.Written.{items_text}
use Rattle.spec_server.specs.Replies.{result_data}
use Rattle.raven_reply.specs.ReplyView.{result_view}
use Rattle.raven_reply.proofs.text.write_results.Given as goal

abbrev pub invariant-loop-done : goal.invariant-loop-done
invariant-loop-done l = l.out.items ++ items_text l.later (items_of (map result_data (map result_view (drop l.done-index l.results)))) ≡ l.fn.out.items ++ items_text false (items_of (map result_data (map result_view l.results)))
