-- What lives at a desk may go to another thread if its keeper may.
use denote.RattleType.{RattleType}
use denote.Param.Send.{IsSend, sendable}
use Rattle.std.proofs.Crossing.{crosses}
use Rattle.raven_base.proofs.shared.Shared.TheSendSync as shared
use Rattle.raven_base.specs.contracts.shared.Shared as Shared
use Rattle.raven_ports.specs.declared.keeper.Keeper as keeper
use Rattle.raven_world.proofs.Crossing.{world_send, world_sync}
use Rattle.raven_world.specs.contracts.world.World as World
use Rattle.raven_desk.specs.contracts.live.Live as Live

shared_world_send : IsSend (Shared.the_row World.the_row)
shared_world_send = shared.the_send World.the_row world_send world_sync

pub live_send : (K : RattleType) (k : keeper.Ghosts K.Denot) → IsSend K → IsSend (Live.the_field K k).row
live_send K k send = let world = shared_world_send in search (sendable, crosses) depth 60 fits 4000
