-- The slots of a world may go to another thread, and several threads may read them.
use denote.Param.Send.{IsSend, IsSync, sendable}
use Rattle.std.proofs.Crossing.{crosses}
use Rattle.raven_base.proofs.shared.Shared.TheSendSync as shared
use Rattle.raven_value.proofs.name.Name.TheSendSync as name
use Rattle.index_version.proofs.Crossing.{version_send, version_sync}
use Rattle.side_by_side.proofs.note.Note.TheSendSync as note
use Rattle.side_by_side.specs.contracts.slot.Slot as Slot
use Rattle.side_by_side.specs.contracts.slots.Slots as Slots

slot_send : IsSend Slot.the_row
slot_send = search (sendable, crosses, name.the_send, version_send, version_sync) depth 60 fits 4000

slot_sync : IsSync Slot.the_row
slot_sync = search (sendable, crosses, name.the_sync, version_send, version_sync) depth 60 fits 4000

pub slots_send : IsSend Slots.the_row
slots_send = search (sendable, crosses, shared.the_send, slot_send, slot_sync, note.the_send, note.the_sync) depth 60 fits 4000

pub slots_sync : IsSync Slots.the_row
slots_sync = search (sendable, crosses, shared.the_sync, slot_send, slot_sync, note.the_send, note.the_sync) depth 60 fits 4000
