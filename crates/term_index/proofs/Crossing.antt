-- The terms of an index may go to another thread, and several threads may read them.
use denote.Param.Send.{IsSend, IsSync, sendable}
use Rattle.std.proofs.Crossing.{crosses}
use Rattle.raven_base.proofs.shared.Shared.TheSendSync as shared
use Rattle.raven_base.specs.contracts.shared.Shared as Shared
use Rattle.raven_value.proofs.text.Text.TheSendSync as text
use Rattle.raven_value.specs.contracts.text.Text as Text
use Rattle.paged_map.proofs.page.Page.TheLaws.TheKnot as page
use Rattle.term_index.proofs.key.Key.TheSendSync as key
use Rattle.term_index.specs.contracts.column.Column as Column
use Rattle.term_index.specs.contracts.terms.Terms as Terms

ruleset pages = (page.both_send-Page, page.both_sync-Page)

shared_text_send : IsSend (Shared.the_row Text.the_row)
shared_text_send = shared.the_send Text.the_row text.the_send text.the_sync

shared_text_sync : IsSync (Shared.the_row Text.the_row)
shared_text_sync = shared.the_sync Text.the_row text.the_send text.the_sync

column_send : IsSend Column.the_row
column_send = search (sendable, crosses, key.the_send, key.the_sync, pages) depth 60 fits 4000

column_sync : IsSync Column.the_row
column_sync = search (sendable, crosses, key.the_send, key.the_sync, pages) depth 60 fits 4000

pub terms_send : IsSend Terms.the_row
terms_send = search (sendable, crosses, shared_text_send, column_send) depth 60 fits 4000

pub terms_sync : IsSync Terms.the_row
terms_sync = search (sendable, crosses, shared_text_sync, column_sync) depth 60 fits 4000
