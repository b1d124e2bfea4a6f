-- A world may go to another thread, and several threads may read it.
use denote.Param.Send.{IsSend, IsSync, sendable}
use Rattle.std.proofs.Crossing.{crosses}
use Rattle.doc_store.proofs.Crossing.{store_send, store_sync}
use Rattle.doc_txn.proofs.base_id.BaseId.TheSendSync as base
use Rattle.doc_txn.proofs.limits.Limits.TheSendSync as limits
use Rattle.side_by_side.proofs.Crossing.{slots_send, slots_sync}
use Rattle.raven_world.specs.contracts.world.World as World

pub world_send : IsSend World.the_row
world_send = search (sendable, crosses, store_send, slots_send, base.the_send, limits.the_field_send) depth 60 fits 4000

pub world_sync : IsSync World.the_row
world_sync = search (sendable, crosses, store_sync, slots_sync, base.the_sync, limits.the_field_sync) depth 60 fits 4000
