use Rattle.std.proofs.Common.{◌≡◌, ◌++◌, length, map}
use Rattle.std.specs.Vec.Iter.{into_iter_items, into_iter_len}
use Rattle.spec_store.specs.Commit.{commit_from, commit, etags_taken}
use Rattle.doc_txn.specs.CommandView.{command_view, writer_view}
use Rattle.doc_txn.specs.SettingView.{setting_of}
use Rattle.doc_txn.specs.TransactionView.{written_of}
use Rattle.doc_txn.proofs.transaction.transact.Given as goal

-- the commands that are left give on what is done what all of them give
abbrev pub invariant-loop-command : goal.invariant-loop-command
invariant-loop-command l = record {
  written : commit_from (length l.done.etags) (setting_of l.terms.base.now l.terms.limits.now) (writer_view l.terms.writer) l.terms.moment (map command_view (into_iter_items l.command-iterator)) (written_of l.done)
      ≡ commit (setting_of l.terms.base.now l.terms.limits.now) (writer_view l.terms.writer) l.terms.moment (map command_view l.fn.commands) l.store;
  etags : l.done.etags ++ etags_taken l.terms.moment (map command_view (into_iter_items l.command-iterator)) l.done.store ≡ etags_taken l.terms.moment (map command_view l.fn.commands) l.store;
  left : into_iter_len l.command-iterator ≡ length (into_iter_items l.command-iterator);
}
