use Rattle.std.proofs.Common.{◌∙◌, subst}
use Rattle.std.specs.Option.{option_copied}
use Rattle.spec_store.specs.Commit.{with_option}
use Rattle.doc_store.specs.Bounds.{IsWithin}
use Rattle.doc_txn.specs.CommandView.{command_view, expect_view, writer_view}
use Rattle.doc_txn.specs.SettingView.{setting_of}
use Rattle.doc_txn.proofs.RowTests.{refused-as}
use Rattle.doc_txn.proofs.transaction.judged.Goals as goal

pub returns-clause-fits : goal.returns-clause-fits
returns-clause-fits c = λ none.
    let row = c.as_ref-row.ensures.value in
    subst (λ r. IsWithin (with_option c.args.store.now r)) row
    (c.in_ok-refusal.ensures.fits none c.args.terms.now.moment (command_view c.args.command) (row ∙ c.in_ok-draft.ensures.row) c.in_ok-draft.ensures.id)

pub returns-clause-refused : goal.returns-clause-refused
returns-clause-refused c =
    let s = setting_of c.args.terms.now.base.now c.args.terms.now.limits.now in
    c.in_ok-refusal.ensures.refused
    ∙ refused-as s (writer_view c.args.terms.now.writer) c.args.terms.now.moment c.args.store.now (command_view c.args.command) c.in_ok-draft.draft.id (expect_view c.in_ok-draft.draft.expected)
    (option_copied c.as_ref-row.result) c.in_ok-draft.ensures.id c.in_ok-draft.ensures.expected (c.as_ref-row.ensures.value ∙ c.in_ok-draft.ensures.row)
