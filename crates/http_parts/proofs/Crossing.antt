-- Routes may go to another thread, and several threads may read them.
use denote.Param.Send.{IsSend, IsSync, sendable}
use Rattle.std.proofs.Crossing.{crosses}
use Rattle.matchit.proofs.tree.Node.TheLaws.TheKnot as node
use Rattle.http_parts.specs.contracts.routes.Routes as Routes

pub routes_send : IsSend Routes.the_row
routes_send = search (sendable, crosses, node.both_send-Node) depth 60 fits 4000

pub routes_sync : IsSync Routes.the_row
routes_sync = search (sendable, crosses, node.both_sync-Node) depth 60 fits 4000
