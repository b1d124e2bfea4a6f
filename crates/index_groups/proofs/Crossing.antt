-- The groups of an index may go to another thread, and several threads may read them, if this holds of its entries.
use denote.RattleType.{RattleType}
use denote.Param.Send.{IsSend, IsSync, sendable}
use Rattle.std.proofs.Crossing.{crosses}
use Rattle.raven_base.proofs.sequence.Sequence.TheSendSync as sequence
use Rattle.raven_base.proofs.shared.Shared.TheSendSync as shared
use Rattle.raven_base.specs.contracts.sequence.Sequence as Sequence
use Rattle.raven_base.specs.contracts.shared.Shared as Shared
use Rattle.raven_value.proofs.id.Id.TheSendSync as id
use Rattle.raven_value.proofs.text.Text.TheSendSync as text
use Rattle.index_tree.proofs.reduce_query.ReduceQuery.TheSendSync as query
use Rattle.index_tree.specs.contracts.reduce_query.ReduceQuery as ReduceQuery
use Rattle.reduce_groups.proofs.Crossing.{trees_send, trees_sync}
use Rattle.reduce_folds.proofs.row_fold.Cells.TheSendSync as cells
use Rattle.reduce_folds.proofs.row_fold.RowFold.TheSendSync as fold
use Rattle.reduce_folds.specs.declared.fields.HasFields as fields
use Rattle.index_groups.proofs.key.GroupKey.TheSendSync as group_key
use Rattle.index_groups.specs.contracts.groups.IndexGroups as IndexGroups
use Rattle.index_groups.specs.contracts.plan.RowField as RowField

shared_query_send : IsSend (Shared.the_row ReduceQuery.the_row)
shared_query_send = shared.the_send ReduceQuery.the_row query.the_send query.the_sync

shared_query_sync : IsSync (Shared.the_row ReduceQuery.the_row)
shared_query_sync = shared.the_sync ReduceQuery.the_row query.the_send query.the_sync

field_send : IsSend RowField.the_row
field_send = search (sendable, crosses, text.the_send) depth 60 fits 4000

field_sync : IsSync RowField.the_row
field_sync = search (sendable, crosses, text.the_sync) depth 60 fits 4000

shared_plan_send : IsSend (Shared.the_row (Sequence.the_row RowField.the_row))
shared_plan_send = shared.the_send (Sequence.the_row RowField.the_row) (sequence.the_send RowField.the_row field_send) (sequence.the_sync RowField.the_row field_sync)

shared_plan_sync : IsSync (Shared.the_row (Sequence.the_row RowField.the_row))
shared_plan_sync = shared.the_sync (Sequence.the_row RowField.the_row) (sequence.the_send RowField.the_row field_send) (sequence.the_sync RowField.the_row field_sync)

module _ (E : RattleType) (h : fields.Ghosts E.Denot) (send : IsSend E) (sync : IsSync E) where
  pub groups_send : IsSend (IndexGroups.the_field E h).row
  groups_send = search (sendable, shared_query_send, shared_plan_send, trees_send, group_key.the_send, group_key.the_sync, id.the_send, id.the_sync, fold.the_send, fold.the_sync, cells.the_send, cells.the_sync) depth 60 fits 4000

  pub groups_sync : IsSync (IndexGroups.the_field E h).row
  groups_sync = search (sendable, shared_query_sync, shared_plan_sync, trees_sync, group_key.the_send, group_key.the_sync, id.the_send, id.the_sync, fold.the_send, fold.the_sync, cells.the_send, cells.the_sync) depth 60 fits 4000
