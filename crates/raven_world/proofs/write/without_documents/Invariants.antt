use Rattle.std.proofs.Common.{◌≡◌, ◌++◌, drop, map}
use Rattle.doc_txn.specs.CommandView.{command_view}
use Rattle.raven_world.specs.Transacts.{bare}
use Rattle.raven_world.proofs.write.without_documents.Given as goal

abbrev pub invariant-loop-command : goal.invariant-loop-command
invariant-loop-command l = map command_view l.heads.items ++ map bare (map command_view (drop l.command-index l.command-items)) ≡ map bare (map command_view l.command-items)
