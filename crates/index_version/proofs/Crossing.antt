-- A version of an index may go to another thread, and several threads may read it.
use denote.RattleType.{RattleType}
use denote.Param.Send.{IsSend, IsSync, sendable}
use Rattle.std.proofs.Crossing.{Arc-send, Arc-sync, crosses}
use Rattle.std.specs.contracts.option.Option as Option
use Rattle.raven_base.proofs.sequence.Sequence.TheSendSync as sequence
use Rattle.raven_base.proofs.shared.Shared.TheSendSync as shared
use Rattle.raven_base.specs.contracts.shared.Shared as Shared
use Rattle.raven_value.proofs.id.Id.TheSendSync as id
use Rattle.raven_value.proofs.row.Row.TheSendSync as stored
use Rattle.raven_value.proofs.text.Text.TheSendSync as text
use Rattle.raven_value.specs.contracts.row.Row as Row
use Rattle.raven_value.specs.contracts.text.Text as Text
use Rattle.index_definition.proofs.Crossing.{definition_send, definition_sync}
use Rattle.index_definition.specs.contracts.definition.Definition as Definition
use Rattle.paged_map.proofs.Crossing.{paged_send, paged_sync}
use Rattle.paged_map.proofs.page.Page.TheLaws.TheKnot as page
use Rattle.reference_track.proofs.Crossing.{referrers_send, referrers_sync}
use Rattle.term_index.proofs.Crossing.{terms_send, terms_sync}
use Rattle.reduce_folds.specs.declared.fields.HasFields as fields
use Rattle.index_groups.proofs.Crossing.{groups_send, groups_sync}
use Rattle.index_groups.specs.contracts.groups.IndexGroups as IndexGroups
use Rattle.index_version.proofs.given.Given.TheSendSync as given
use Rattle.index_version.proofs.given.Tally.TheSendSync as tally
use Rattle.index_version.specs.contracts.given.Given as Given
use Rattle.index_version.specs.contracts.kept.Kept as Kept
use Rattle.index_version.specs.contracts.results.Results as Results
use Rattle.index_version.specs.contracts.table.Table as Table
use Rattle.index_version.specs.contracts.version.IndexVersion as IndexVersion

ruleset pages = (page.both_send-Page, page.both_sync-Page)

shared_row_send : IsSend (Shared.the_row Row.the_row)
shared_row_send = shared.the_send Row.the_row stored.the_send stored.the_sync

shared_row_sync : IsSync (Shared.the_row Row.the_row)
shared_row_sync = shared.the_sync Row.the_row stored.the_send stored.the_sync

shared_given_send : IsSend (Shared.the_row Given.the_row)
shared_given_send = shared.the_send Given.the_row given.the_send given.the_sync

shared_given_sync : IsSync (Shared.the_row Given.the_row)
shared_given_sync = shared.the_sync Given.the_row given.the_send given.the_sync

table_send : IsSend Table.the_row
table_send = search (sendable, crosses, id.the_send, id.the_sync, shared_row_send, shared_row_sync, pages) depth 60 fits 4000

pub table_sync : IsSync Table.the_row
table_sync = search (sendable, crosses, id.the_send, id.the_sync, shared_row_send, shared_row_sync, pages) depth 60 fits 4000

results_send : IsSend Results.the_row
results_send = search (sendable, id.the_send, id.the_sync, shared_given_send, shared_given_sync, tally.the_field_send, paged_send) depth 60 fits 4000

results_sync : IsSync Results.the_row
results_sync = search (sendable, id.the_send, id.the_sync, shared_given_send, shared_given_sync, tally.the_field_sync, paged_sync) depth 60 fits 4000

maybe_groups_send : (E : RattleType) (h : fields.Ghosts E.Denot) → IsSend E → IsSync E → IsSend (Option.the_field (IndexGroups.the_row E h)).row
maybe_groups_send E h send sync = let a = groups_send E h send sync in search (sendable, crosses) depth 60 fits 4000

maybe_groups_sync : (E : RattleType) (h : fields.Ghosts E.Denot) → IsSend E → IsSync E → IsSync (Option.the_field (IndexGroups.the_row E h)).row
maybe_groups_sync E h send sync = let a = groups_sync E h send sync in search (sendable, crosses) depth 60 fits 4000

kept_send : IsSend Kept.the_field.row
kept_send = search (sendable, results_send, referrers_send) depth 60 fits 4000

kept_sync : IsSync Kept.the_field.row
kept_sync = search (sendable, results_sync, referrers_sync) depth 60 fits 4000

pub version_send : IsSend IndexVersion.the_row
version_send =
    let definition = Arc-send Definition.the_row definition_send definition_sync in
    let scope = sequence.the_send Text.the_row text.the_send in
    search (sendable, table_send, kept_send, maybe_groups_send, shared_given_send, shared_given_sync, terms_send) depth 60 fits 4000

pub version_sync : IsSync IndexVersion.the_row
version_sync =
    let definition = Arc-sync Definition.the_row definition_send definition_sync in
    let scope = sequence.the_sync Text.the_row text.the_sync in
    search (sendable, table_sync, kept_sync, maybe_groups_sync, shared_given_send, shared_given_sync, terms_sync) depth 60 fits 4000
