use denote.Param.Send.{sendable, param_sync}
use Rattle.std.proofs.Crossing.{crosses}
use Rattle.index_definition.proofs.Crossing.{definition_sync}
use Rattle.raven_tests.proofs.batches.brought.Lts.{arg-3-1}
use Rattle.raven_tests.proofs.batches.brought.Goals as goal

-- the definition may be read by several threads
pub next-requires-sync-M : goal.next-requires-sync-M
next-requires-sync-M g c κs within =
    param_sync 1 (arg-3-1 g.row.R g.row.L g.R.laws g.L.laws g.R.Threads g.R.Threads-dict g.L.Ledger g.L.Ledger-dict κs) (search (sendable, crosses, definition_sync) depth 60 fits 4000)
