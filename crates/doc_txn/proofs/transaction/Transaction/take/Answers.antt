use Rattle.std.proofs.Common.{◌≡◌, None, option_map, ◌∙◌, ap, sym}
use Rattle.spec_store.specs.Commit.{refusal_of}
use Rattle.doc_txn.specs.CommandView.{command_view, writer_view}
use Rattle.doc_txn.specs.FaultView.{kind_view}
use Rattle.doc_txn.specs.SettingView.{setting_of}
use Rattle.spec_store.proofs.CommitLemmas.{row_of-follows}
use Rattle.doc_txn.proofs.transaction.Transaction.take.Goals as goal

pub write_if-requires-clause-follows : goal.write_if-requires-clause-follows
write_if-requires-clause-follows c = λ r is.
    let s = setting_of c.args.terms.now.base.now c.args.terms.now.limits.now in
    let w = writer_view c.args.terms.now.writer in
    let command = command_view c.args.command in
    let free : refusal_of s w c.args.self.store command ≡ None = sym c.in_ok-row.ensures.refused ∙ ap (option_map kind_view) c.in_default.is in
    row_of-follows s w c.args.terms.now.moment c.args.self.store command r free (sym c.in_ok-row.ensures.row ∙ is)

pub write_if-requires-clause-within : goal.write_if-requires-clause-within
write_if-requires-clause-within c = c.in_ok-row.ensures.fits c.in_default.is
