use Rattle.std.proofs.Common.{◌≡◌, ◌+◌, ◌∷◌, drop, sym, ap, ◌∙◌, subst}
use Rattle.std.proofs.lemmas.List.{drop_all}
use Rattle.spec_data.specs.Folding.{folded}
use Rattle.reference_track.specs.Folded.{by_folded}
use Rattle.reference_track.specs.Sets.{AreInOrder}
use Rattle.reference_track.proofs.FoldedMaps.{get-by_folded}
use Rattle.term_index.specs.Columns.{HasFields}
use Rattle.index_version.specs.Termed.{given_fields, names_of}
use Rattle.index_version.proofs.GroupChanges.{next_is}
use Rattle.index_version.proofs.Terming.{in_order_left, mixed, names_kept, no_columns, old_fields, terms_before, terms_more}
use Rattle.index_version.proofs.terms.retermed.Goals as goal

pub loop-id-init : goal.loop-id-init
loop-id-init c =
    let e = c.in_ok-new.ensures.cases in
    record {
      names = ap names_of e;
      values = λ q. subst (HasFields q (mixed (by_folded c.args.before.now) (by_folded c.args.after.now) c.args.ids.now q)) (sym e)
          (terms_before (by_folded c.args.before.now) (by_folded c.args.after.now) c.args.ids.now c.args.terms.now c.requires.others c.requires.terms q);
    }

pub replace-requires : goal.replace-requires
replace-requires c =
    let B = by_folded c.args.before.now in
    let A = by_folded c.args.after.now in
    let x = c.id-item.result in
    let rest = drop (c.loop-id.id-index + 1) c.args.ids.now in
    let left : drop c.loop-id.id-index c.args.ids.now ≡ x ∷ rest = next_is c.args.ids.now c.loop-id.id-index x c.loop-id-test.true c.id-item.is in
    let old = c.fields_at.ensures ∙ ap given_fields (sym (get-by_folded x c.args.before.now)) in
    subst (λ F. HasFields (folded x) F c.loop-id.new) (ap (λ ids. mixed B A ids (folded x)) left ∙ old_fields B A x rest ∙ sym old) (c.loop-id.invariant.values (folded x))

pub loop-id-preserved : goal.loop-id-preserved
loop-id-preserved c =
    let B = by_folded c.args.before.now in
    let A = by_folded c.args.after.now in
    let x = c.id-item.result in
    let rest = drop (c.loop-id.id-index + 1) c.args.ids.now in
    let left : drop c.loop-id.id-index c.args.ids.now ≡ x ∷ rest = next_is c.args.ids.now c.loop-id.id-index x c.loop-id-test.true c.id-item.is in
    let order : AreInOrder (x ∷ rest) = subst AreInOrder left (in_order_left c.loop-id.id-index c.args.ids.now c.requires.once) in
    let given = c.fields_at-in-loop-id.ensures ∙ ap given_fields (sym (get-by_folded x c.args.after.now)) in
    record {
      names = ap names_of c.in_ok-new-2.ensures ∙ names_kept (folded x) _ c.loop-id.new ∙ c.loop-id.invariant.names;
      values = terms_more B A x rest _ c.loop-id.new c.in_ok-new-2.new order.0 given c.in_ok-new-2.ensures
          (λ q. subst (λ ids. HasFields q (mixed B A ids q) c.loop-id.new) left (c.loop-id.invariant.values q));
    }

pub returns-clause-terms : goal.returns-clause-terms
returns-clause-terms c = λ q.
    subst (λ ids. HasFields q (mixed (by_folded c.args.before.now) (by_folded c.args.after.now) ids q) c.loop-id.new) (drop_all c.loop-id.id-index c.args.ids.now c.loop-id-test.false) (c.loop-id.invariant.values q)

pub returns-then-has_reduce-clause-terms : goal.returns-then-has_reduce-clause-terms
returns-then-has_reduce-clause-terms c = no_columns (by_folded c.args.after.now) _ (ap names_of c.in_ok-clone.ensures.cases ∙ c.requires.reduce c.if-has_reduce.true)
