use Rattle.std.proofs.Common.{◌≡◌, ◌<◌, ◌≤◌, Some, length, option_copied, ap, sym, ◌∙◌, arith}
use Rattle.std.specs.Cmp.{on_total}
use Rattle.raven_value.specs.ScalarView.{scalar_view}
use Rattle.paged_map.specs.Range.{between}
use Rattle.term_index.specs.KeyView.{by_mark, mark_of}
use Rattle.term_index.specs.Marks.{before, after}
use Rattle.term_index.specs.Totals.{marks_total}
use Rattle.term_index.proofs.Cuts.{at_place, is_term, no_edge, run_is, there_is}
use Rattle.term_index.proofs.Lined.{terms_between}
use Rattle.term_index.proofs.Places.{under_and_between}
use Rattle.term_index.proofs.pages.run_at.Goals as goal
use Rattle.term_index.proofs.pages.run_at.Goals.{then-past-end, else-past-end}

pub overflow_add-base : goal.overflow_add-base
overflow_add-base c =
    let fit = under_and_between by_mark (on_total mark_of marks_total) c.args.low.now c.args.high.now c.args.terms.now in
    omega (arith, fit, c.requires.base, c.requires.at, c.requires.end, c.len-all.type_inv, c.len-all.ensures.count)

pub unreachable-requires : goal.unreachable-requires
unreachable-requires c =
    there_is c.args.at (between by_mark c.args.low.now c.args.high.now c.args.terms.now) (omega (arith, c.requires.at, c.requires.end)) (sym (at_place c.args.low.now c.args.high.now c.args.base c.args.at c.args.end c.args.terms.now c.len-all.ensures.rising c.requires.base c.requires.at c.requires.end) ∙ (sym c.nth.ensures.pair ∙ ap (λ o. option_copied o) c.in_default.is))

pub unreachable-requires-in_default-0₀ : goal.unreachable-requires-in_default-0₀
unreachable-requires-in_default-0₀ c =
    no_edge c.in-Some.pair.now.0
    (is_term c.args.at (between by_mark c.args.low.now c.args.high.now c.args.terms.now) c.in-Some.pair.now (terms_between c.args.low.now c.args.high.now c.args.terms.now c.requires.terms) (sym (at_place c.args.low.now c.args.high.now c.args.base c.args.at c.args.end c.args.terms.now c.len-all.ensures.rising c.requires.base c.requires.at c.requires.end) ∙ (sym c.nth.ensures.pair ∙ ap (λ o. option_copied o) c.in-Some.is)))
    c.in_default-0₀.not-At

pub returns : goal.returns
returns c =
    let terms = c.args.terms.now in
    let count = length (between by_mark c.args.low.now c.in_ok-over.over terms) in
    let counted : c.count_between-past.result ≡ count = c.count_between-past.ensures.count in
    let bounds : (count < c.args.end → c.if-past-end.past ≡ count) × (c.args.end ≤ count → c.if-past-end.past ≡ c.args.end) =
    elim c.if-past-end.branch [
      | then-past-end w ↦ (λ l. omega (arith, w.past-is, counted), λ l. omega (arith, w.past-is, counted, w.if-past-end.true, l))
      | else-past-end w ↦ (λ l. omega (arith, w.past-is, counted, w.if-past-end.false, l), λ l. omega (arith, w.past-is))
    ] in
    run_is c.args.low.now c.args.high.now c.in_ok-under.under c.in_ok-over.over c.args.at c.args.end c.count_between.result c.if-past-end.past c.in-At.term terms c.len-all.ensures.rising c.requires.terms
    (c.in_ok-under.ensures ∙ ap (λ x. before (scalar_view x)) (c.in_ok-clone.ensures.cases ∙ ap (λ t. t.value) c.get.ensures))
    (c.in_ok-over.ensures ∙ ap (λ x. after (scalar_view x)) (c.in_ok-clone-2.ensures.cases ∙ ap (λ t. t.value) c.get.ensures))
    (sym (at_place c.args.low.now c.args.high.now c.args.base c.args.at c.args.end c.args.terms.now c.len-all.ensures.rising c.requires.base c.requires.at c.requires.end) ∙ (sym c.nth.ensures.pair ∙ (ap (λ o. option_copied o) c.in-Some.is ∙ ap (λ key. Some (key, tt)) c.in-At.is)))
    c.requires.at c.requires.end c.count_between.ensures.count bounds.0 bounds.1
