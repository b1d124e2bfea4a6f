-- What a transaction leaves.
use Rattle.std.specs.Prelude.{ℕ, List, Result, map}
use Rattle.spec_store.specs.Store.{Store}
use Rattle.spec_store.specs.Commit.{Written, Refused, commit}
use Rattle.doc_txn.specs.CommandView.{command_view, writer_view}
use Rattle.doc_txn.specs.SettingView.{setting_of}
use Rattle.doc_txn.specs.declared.command.Command.{Command}
use Rattle.doc_txn.specs.declared.command.Writer.{Writer}
use Rattle.doc_txn.specs.declared.limits.Limits.{Limits}
use Rattle.doc_txn.specs.declared.transaction.Transaction.{Transaction}

abbrev pub written_of : Transaction → Written
written_of t = record { store = t.store; rows = t.rows }

-- what the commands give on a store: what they write, or the first that is refused
abbrev pub outcome : List ℕ → Limits → Writer → ℕ → List Command → Store → Result Written Refused
outcome base limits writer now commands S = commit (setting_of base limits) (writer_view writer) now (map command_view commands) S
