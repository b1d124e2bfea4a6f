use Rattle.doc_txn.specs.CommandView.{command_view, writer_view}
use Rattle.doc_txn.specs.SettingView.{setting_of}
use Rattle.doc_txn.proofs.Taking.{one_ok, one_etags, one_grows, one_refused}
use Rattle.doc_txn.proofs.transaction.transact_one.Goals as goal

pub returns-clause-ok : goal.returns-clause-ok
returns-clause-ok c =
    one_ok c.args.store.now c.in_ok-start.start c.in_ok-start.ensures.written c.in_ok-start.ensures.etags (setting_of c.args.base.now c.args.limits.now) (writer_view c.args.writer) c.args.now (command_view c.args.command)
    c.take.result c.take.ensures.allowed c.take.ensures.written

pub returns-clause-etags : goal.returns-clause-etags
returns-clause-etags c =
    one_etags c.args.store.now c.in_ok-start.start c.in_ok-start.ensures.written c.in_ok-start.ensures.etags (setting_of c.args.base.now c.args.limits.now) (writer_view c.args.writer) c.args.now (command_view c.args.command)
    c.take.result c.take.ensures.etags

pub returns-clause-grows : goal.returns-clause-grows
returns-clause-grows c =
    let s = setting_of c.args.base.now c.args.limits.now in
    let w = writer_view c.args.writer in
    one_grows c.args.store.now c.in_ok-start.start c.in_ok-start.ensures.written c.in_ok-start.ensures.etags s w c.args.now (command_view c.args.command) c.take.result
    (one_ok c.args.store.now c.in_ok-start.start c.in_ok-start.ensures.written c.in_ok-start.ensures.etags s w c.args.now (command_view c.args.command) c.take.result c.take.ensures.allowed c.take.ensures.written)

pub returns-clause-refused : goal.returns-clause-refused
returns-clause-refused c =
    one_refused c.args.store.now c.in_ok-start.start c.in_ok-start.ensures.written c.in_ok-start.ensures.etags (setting_of c.args.base.now c.args.limits.now) (writer_view c.args.writer) c.args.now (command_view c.args.command)
    c.take.result c.take.ensures.refused
