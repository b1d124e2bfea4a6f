use Rattle.std.proofs.Common.{◌∙◌}
use Rattle.doc_txn.specs.CommandView.{command_view}
use Rattle.doc_txn.specs.TransactionView.{written_of}
use Rattle.raven_reply.specs.ReplyView.{reply_view}
use Rattle.raven_world.proofs.Steps.{write-one}
use Rattle.raven_world.proofs.world.World.commit_one.Goals as goal

pub returns : goal.returns
returns c =
    c.in_ok-changed.ensures
    ∙ write-one c.args.self.now c.args.now (command_view c.args.command) (command_view c.in_ok-head.head) (written_of c.in_ok-done.done) (reply_view c.in_ok-reply.reply) c.in_ok-done.done.etags
    c.in_ok-done.ensures.done.0 c.in_ok-done.ensures.done.1 c.in_ok-head.ensures c.in_ok-reply.ensures
