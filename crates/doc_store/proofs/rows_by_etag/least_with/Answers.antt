use Rattle.std.proofs.Common.{◌≡◌, Greater, Some, true, ap, sym, ◌∙◌, subst}
use Rattle.std.specs.Ordering.{is_le}
use Rattle.spec_data.specs.Rows.{Row}
use Rattle.doc_store.specs.Maps.{id_cmp, is_from}
use Rattle.doc_store.proofs.FromLemmas.{from_itself, from_lesser}
use Rattle.doc_store.proofs.rows_by_etag.least_with.Goals as goal

pub returns-in_default-clause-own : goal.returns-in_default-clause-own
returns-in_default-clause-own c =
    subst (λ k. is_le (id_cmp k c.args.row.now.id) ≡ true) (sym (c.in_ok-clone.ensures.cases ∙ ap (λ (x : Row). x.id) c.row.view_is)) (from_itself c.args.row.now.id)

pub returns-in_ok-clone-in-Greater-clause-own : goal.returns-in_ok-clone-in-Greater-clause-own
returns-in_ok-clone-in-Greater-clause-own c =
    subst (λ k. is_le (id_cmp k c.args.row.now.id) ≡ true) (sym (c.in_ok-clone-in-Greater.ensures.cases ∙ ap (λ (x : Row). x.id) c.row.view_is)) (from_itself c.args.row.now.id)

pub returns-in_ok-clone-in-Greater-clause-others : goal.returns-in_ok-clone-in-Greater-clause-others
returns-in_ok-clone-in-Greater-clause-others c r from =
    let above : id_cmp c.in-Some.id c.args.row.now.id ≡ Greater = ap (λ (x : Row). id_cmp c.in-Some.id x.id) (sym c.row.view_is) ∙ sym c.cmp.ensures ∙ c.in-Greater.is in
    subst (λ k. is_from (Some k) r ≡ true) (sym (c.in_ok-clone-in-Greater.ensures.cases ∙ ap (λ (x : Row). x.id) c.row.view_is))
    (from_lesser c.in-Some.id c.args.row.now.id above r (subst (λ o. is_from o r ≡ true) c.in-Some.is from))
