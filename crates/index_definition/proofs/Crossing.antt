-- A definition may go to another thread, and several threads may read it.
use denote.Param.Send.{IsSend, IsSync, sendable}
use Rattle.std.proofs.Crossing.{crosses}
use Rattle.std.specs.contracts.option.Option as Option
use Rattle.raven_base.proofs.sequence.Sequence.TheSendSync as sequence
use Rattle.raven_base.specs.contracts.sequence.Sequence as Sequence
use Rattle.raven_value.proofs.name.Name.TheSendSync as name
use Rattle.raven_value.proofs.path.Path.TheSendSync as path
use Rattle.raven_value.proofs.text.Text.TheSendSync as text
use Rattle.raven_value.specs.contracts.path.Path as Path
use Rattle.raven_value.specs.contracts.text.Text as Text
use Rattle.index_tree.proofs.Crossing.{map_send, map_sync}
use Rattle.index_tree.proofs.reduce_query.ReduceQuery.TheSendSync as query
use Rattle.index_tree.specs.contracts.reduce_query.ReduceQuery as ReduceQuery
use Rattle.index_definition.specs.contracts.definition.DefBody as DefBody
use Rattle.index_definition.specs.contracts.definition.Definition as Definition
use Rattle.index_definition.specs.contracts.shape.Shape as Shape

paths_send : IsSend (Sequence.the_row Path.the_row)
paths_send = sequence.the_send Path.the_row path.the_send

paths_sync : IsSync (Sequence.the_row Path.the_row)
paths_sync = sequence.the_sync Path.the_row path.the_sync

maybe_query_send : IsSend (Option.the_field ReduceQuery.the_row).row
maybe_query_send = search (sendable, crosses, query.the_send) depth 60 fits 4000

maybe_query_sync : IsSync (Option.the_field ReduceQuery.the_row).row
maybe_query_sync = search (sendable, crosses, query.the_sync) depth 60 fits 4000

maybe_text_send : IsSend (Option.the_field Text.the_row).row
maybe_text_send = search (sendable, crosses, text.the_send) depth 60 fits 4000

maybe_text_sync : IsSync (Option.the_field Text.the_row).row
maybe_text_sync = search (sendable, crosses, text.the_sync) depth 60 fits 4000

shape_send : IsSend Shape.the_field.row
shape_send = search (sendable, crosses, text.the_send, paths_send) depth 60 fits 4000

shape_sync : IsSync Shape.the_field.row
shape_sync = search (sendable, crosses, text.the_sync, paths_sync) depth 60 fits 4000

body_send : IsSend DefBody.the_field.row
body_send = search (sendable, crosses, text.the_send, shape_send, map_send, maybe_query_send, maybe_text_send) depth 60 fits 4000

body_sync : IsSync DefBody.the_field.row
body_sync = search (sendable, crosses, text.the_sync, shape_sync, map_sync, maybe_query_sync, maybe_text_sync) depth 60 fits 4000

pub definition_send : IsSend Definition.the_row
definition_send = search (sendable, crosses, name.the_send, body_send) depth 60 fits 4000

pub definition_sync : IsSync Definition.the_row
definition_sync = search (sendable, crosses, name.the_sync, body_sync) depth 60 fits 4000
