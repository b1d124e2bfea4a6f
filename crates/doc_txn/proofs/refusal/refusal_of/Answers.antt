use Rattle.std.proofs.Common.{◌≡◌, option_map, ◌∙◌, ap, sym}
use Rattle.std.specs.Option.{option_copied, option_or}
use Rattle.spec_data.specs.Folding.{folded}
use Rattle.spec_store.specs.Store.{row_at}
use Rattle.doc_txn.specs.CommandView.{expect_view, writer_view}
use Rattle.doc_txn.specs.FaultView.{kind_view}
use Rattle.doc_txn.specs.SettingView.{setting_of}
use Rattle.doc_txn.specs.Tests.{full_for}
use Rattle.doc_txn.proofs.Fits.{row-fits}
use Rattle.doc_txn.proofs.RowTests.{none-of, refused-by-row}
use Rattle.doc_txn.proofs.refusal.refusal_of.Goals as goal

-- the answer is the first of the tests
first : (c : goal.After-or-5) →
    c.or-5.result ≡ option_or (option_or (option_or (option_or (option_or c.reserved-reserved.result c.too_large-large.result) c.in_ok-changed.changed) c.in_ok-conflict.conflict) c.store_full-full.result) c.etags_spent-spent.result
first c =
    c.or-5.ensures
    ∙ ap (λ x. option_or x c.etags_spent-spent.result)
    (c.or-4.ensures
    ∙ ap (λ x. option_or x c.store_full-full.result)
    (c.or-3.ensures ∙ ap (λ x. option_or x c.in_ok-conflict.conflict) (c.or-2.ensures ∙ ap (λ x. option_or x c.in_ok-changed.changed) c.or.ensures)))

pub returns-clause-fits : goal.returns-clause-fits
returns-clause-fits c = λ none now command is at.
    let s = setting_of c.args.terms.now.base.now c.args.terms.now.limits.now in
    let S = c.args.store.now in
    let free = none-of c.reserved-reserved.result c.too_large-large.result c.in_ok-changed.changed c.in_ok-conflict.conflict c.store_full-full.result c.etags_spent-spent.result (sym (first c) ∙ none) in
    row-fits s now S command (option_copied c.args.row) is
    (sym (c.store_full-full.ensures.full c.args.terms.now.base.now ∙ ap (full_for s S (option_copied c.args.row)) (c.requires ∙ ap (λ q. row_at (folded q) S.rows) at)) ∙ ap (option_map kind_view) free.0)
    (sym c.etags_spent-spent.ensures.spent ∙ ap (option_map kind_view) free.1)
    c.store_full-full.ensures.counts.1
    c.store_full-full.ensures.counts.0
    c.etags_spent-spent.ensures.bound

pub returns-clause-refused : goal.returns-clause-refused
returns-clause-refused c =
    let s = setting_of c.args.terms.now.base.now c.args.terms.now.limits.now in
    ap (option_map kind_view) (first c)
    ∙ refused-by-row s (writer_view c.args.terms.now.writer) c.args.store.now (option_copied c.args.row) c.args.id.now (option_copied c.args.old) (option_copied c.live.result)
    (expect_view c.args.expected.now) c.reserved-reserved.result c.too_large-large.result c.in_ok-changed.changed c.in_ok-conflict.conflict c.store_full-full.result c.etags_spent-spent.result
    c.requires c.live.ensures c.reserved-reserved.ensures c.too_large-large.ensures c.in_ok-changed.ensures c.in_ok-conflict.ensures
    (c.store_full-full.ensures.full c.args.terms.now.base.now) c.etags_spent-spent.ensures.spent
