use Rattle.std.proofs.Common.{map}
use Rattle.doc_txn.specs.CommandView.{command_view}
use Rattle.doc_txn.specs.TransactionView.{written_of}
use Rattle.raven_world.proofs.Steps.{write-all}
use Rattle.raven_world.proofs.world.World.commit.Goals as goal

pub returns : goal.returns
returns c =
    write-all c.args.self.now c.args.now (map command_view c.args.commands) (map command_view c.in_ok-heads.heads) (written_of c.in_ok-done.done) c.in_ok-done.done.etags _
    c.in_ok-done.ensures.done.0 c.in_ok-done.ensures.done.1 c.in_ok-heads.ensures c.in_ok-replied.ensures
