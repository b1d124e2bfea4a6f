-- A store may go to another thread, and several threads may read it.
use denote.Param.Send.{IsSend, IsSync, sendable}
use Rattle.std.proofs.Crossing.{crosses}
use Rattle.raven_base.proofs.shared.Shared.TheSendSync as shared
use Rattle.raven_base.specs.contracts.shared.Shared as Shared
use Rattle.raven_value.proofs.id.Id.TheSendSync as id
use Rattle.raven_value.proofs.row.Row.TheSendSync as stored
use Rattle.raven_value.proofs.text.Text.TheSendSync as text
use Rattle.raven_value.specs.contracts.row.Row as Row
use Rattle.paged_map.proofs.page.Page.TheLaws.TheKnot as page
use Rattle.doc_store.specs.contracts.rows_by_etag.RowsByEtag as RowsByEtag
use Rattle.doc_store.specs.contracts.store.Store as Store

ruleset pages = (page.both_send-Page, page.both_sync-Page)

pub shared_row_send : IsSend (Shared.the_row Row.the_row)
shared_row_send = shared.the_send Row.the_row stored.the_send stored.the_sync

pub shared_row_sync : IsSync (Shared.the_row Row.the_row)
shared_row_sync = shared.the_sync Row.the_row stored.the_send stored.the_sync

by_etag_send : IsSend RowsByEtag.the_row
by_etag_send = search (sendable, crosses, shared_row_send, shared_row_sync, pages) depth 60 fits 4000

by_etag_sync : IsSync RowsByEtag.the_row
by_etag_sync = search (sendable, crosses, shared_row_send, shared_row_sync, pages) depth 60 fits 4000

pub store_send : IsSend Store.the_row
store_send = search (sendable, crosses, id.the_send, id.the_sync, text.the_send, text.the_sync, shared_row_send, shared_row_sync, by_etag_send, by_etag_sync, pages) depth 60 fits 4000

pub store_sync : IsSync Store.the_row
store_sync = search (sendable, crosses, id.the_send, id.the_sync, text.the_send, text.the_sync, shared_row_send, shared_row_sync, by_etag_send, by_etag_sync, pages) depth 60 fits 4000
