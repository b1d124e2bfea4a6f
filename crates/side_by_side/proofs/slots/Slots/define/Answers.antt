use Rattle.std.proofs.Common.{◌≡◌, sym, subst}
use Rattle.std.specs.Prelude.{IfSome}
use Rattle.doc_txn.specs.CommandView.{writer_view}
use Rattle.doc_txn.specs.declared.command.Writer.{Writer}
use Rattle.index_definition.specs.DefinitionView.{definition_view}
use Rattle.side_by_side.specs.Changes.{MayDefine, answer_view, define_by}
use Rattle.side_by_side.specs.Standing.{world_of}
use Rattle.side_by_side.proofs.Changing.{defines-free}
use Rattle.side_by_side.proofs.slots.Slots.define.Goals as goal

pub returns-in-Client : goal.returns-in-Client
returns-in-Client c setting S room latest =
    let d = c.args.definition.value in
    subst (λ (w : Writer). IfSome (answer_view c.define_named.result) (λ change. change ≡ define_by (writer_view w) (world_of setting S c.args.self.now) d.name (definition_view d.body)))
    (sym c.in-Client.is) (c.define_named.ensures setting S room latest)

pub returns-in-Server : goal.returns-in-Server
returns-in-Server c setting S room latest =
    let d = c.args.definition.value in
    let may = subst (λ (w : Writer). MayDefine (writer_view w) c.args.self.now.slots d.name (definition_view d.body)) c.in-Server.is c.requires.may in
    subst (λ (w : Writer). IfSome (answer_view c.add.result) (λ change. change ≡ define_by (writer_view w) (world_of setting S c.args.self.now) d.name (definition_view d.body)))
    (sym c.in-Server.is)
    (defines-free (world_of setting S c.args.self.now) d.name (definition_view d.body) (answer_view c.add.result) may.2 (c.add.ensures setting S room latest))
