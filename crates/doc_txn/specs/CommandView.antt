-- What the commands of the program are.
use Rattle.spec_store.specs.Commit as is
use Rattle.doc_txn.specs.declared.command.Command.{Command}
use Rattle.doc_txn.specs.declared.command.Command.TheVariants as c
use Rattle.doc_txn.specs.declared.command.Expect.{Expect}
use Rattle.doc_txn.specs.declared.command.Expect.TheVariants as e
use Rattle.doc_txn.specs.declared.command.Writer.{Writer}
use Rattle.doc_txn.specs.declared.command.Writer.TheVariants as w

abbrev pub writer_view : Writer → is.Writer
writer_view w.Client = is.Client
writer_view w.Server = is.Server

abbrev pub expect_view : Expect → is.Expect
expect_view e.Any = is.AnyVector
expect_view (e.Vector vector) = is.Vector vector

abbrev pub command_view : Command → is.Command
command_view (c.Put id expected body) = is.Put id (expect_view expected) body
command_view (c.Delete id expected) = is.Delete id (expect_view expected)
