-- A keeper in memory may go to another thread.
use denote.Param.Send.{IsSend, sendable}
use Rattle.std.proofs.Crossing.{crosses}
use Rattle.raven_value.proofs.text.Text.TheSendSync as text
use Rattle.raven_ports.specs.contracts.keeper.KeptRow as KeptRow
use Rattle.raven_ports.specs.contracts.mem_keeper.MemKeeper as MemKeeper

kept_row_send : IsSend KeptRow.the_row
kept_row_send = search (sendable, crosses, text.the_send) depth 60 fits 4000

pub keeper_send : IsSend MemKeeper.the_row
keeper_send = search (sendable, crosses, kept_row_send) depth 60 fits 4000
