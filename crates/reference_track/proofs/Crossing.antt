-- Sets of ids, and who refers to them, may go to another thread, and several threads may read them.
use denote.Param.Send.{IsSend, IsSync, sendable}
use Rattle.std.proofs.Crossing.{crosses}
use Rattle.raven_value.proofs.id.Id.TheSendSync as id
use Rattle.paged_map.proofs.Crossing.{paged_send, paged_sync}
use Rattle.paged_map.proofs.page.Page.TheLaws.TheKnot as page
use Rattle.reference_track.specs.contracts.id_set.IdSet as IdSet
use Rattle.reference_track.specs.contracts.referrers.Referrers as Referrers

ruleset pages = (page.both_send-Page, page.both_sync-Page)

ids_send : IsSend IdSet.the_row
ids_send = search (sendable, crosses, id.the_send, id.the_sync, pages) depth 60 fits 4000

ids_sync : IsSync IdSet.the_row
ids_sync = search (sendable, crosses, id.the_send, id.the_sync, pages) depth 60 fits 4000

pub referrers_send : IsSend Referrers.the_row
referrers_send = search (sendable, id.the_send, id.the_sync, ids_send, ids_sync, paged_send) depth 60 fits 4000

pub referrers_sync : IsSync Referrers.the_row
referrers_sync = search (sendable, id.the_send, id.the_sync, ids_send, ids_sync, paged_sync) depth 60 fits 4000
