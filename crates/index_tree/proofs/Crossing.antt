-- The trees of definitions may go to another thread, and several threads may read them.
use denote.Param.Send.{IsSend, IsSync, sendable}
use Rattle.std.proofs.Crossing.{crosses}
use Rattle.raven_base.proofs.sequence.Sequence.TheSendSync as sequence
use Rattle.raven_value.proofs.short.Short.TheSendSync as short
use Rattle.raven_value.proofs.text.Held.TheSendSync as held
use Rattle.raven_value.proofs.text.Text.TheSendSync as text
use Rattle.index_tree.proofs.expression.BinaryOp.TheSendSync as binary
use Rattle.index_tree.proofs.expression.UnaryOp.TheSendSync as unary
use Rattle.index_tree.proofs.expression.Expr.TheLaws.TheKnot as expression
use Rattle.index_tree.specs.contracts.expression.Expr as Expr
use Rattle.index_tree.specs.contracts.map_query.MapQuery as MapQuery

ruleset texts = (short.the_send, short.the_sync, held.the_send, held.the_sync, held.the_field_send, held.the_field_sync, text.the_send, text.the_sync)

expr_send : IsSend Expr.the_row
expr_send = search (sendable, crosses, texts, binary.the_send, unary.the_send, expression.both_send-Expr) depth 60 fits 4000

expr_sync : IsSync Expr.the_row
expr_sync = search (sendable, crosses, texts, binary.the_sync, unary.the_sync, expression.both_sync-Expr) depth 60 fits 4000

pub map_send : IsSend MapQuery.the_field.row
map_send = search (sendable, crosses, text.the_send, sequence.the_send, expr_send) depth 60 fits 4000

pub map_sync : IsSync MapQuery.the_field.row
map_sync = search (sendable, crosses, text.the_sync, sequence.the_sync, expr_sync) depth 60 fits 4000
