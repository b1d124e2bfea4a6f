use Rattle.std.proofs.Common.{◌≡◌, ◌+◌, Some, None, [], map, take, drop, slice_get, drop_of_length-le, option_copied, ap, sym, ◌∙◌, arith}
use Rattle.std.proofs.lemmas.Result.{IfOk-weaker}
use Rattle.std.specs.Cmp.{on_total}
use Rattle.spec_data.specs.Folding.{folded}
use Rattle.paged_map.specs.Range.{between}
use Rattle.term_index.specs.Held.{held}
use Rattle.term_index.specs.KeyView.{by_mark, mark_of}
use Rattle.term_index.specs.Totals.{marks_total}
use Rattle.term_index.proofs.Lined.{held_drop, page_none, terms_between}
use Rattle.term_index.proofs.Places.{drop_past, page_at, page_past}
use Rattle.term_index.proofs.pages.page_up.Goals as goal

pub returns-in_default : goal.returns-in_default
returns-in_default c =
    let terms = c.args.terms.now in
    let past : drop (c.args.base + c.args.start) terms ≡ [] = drop_of_length-le terms (omega (arith, c.in_default.ensures, c.len-all.type_inv, c.len-all.ensures.count)) in
    let none = page_past by_mark (on_total mark_of marks_total) c.args.low.now c.args.high.now c.args.start (c.args.base + c.args.start) terms c.len-all.ensures.rising (ap (λ n. n + c.args.start) c.requires.base) past in
    ap (map folded) c.new.ensures ∙ page_none c.args.size c.args.start (between by_mark c.args.low.now c.args.high.now terms) (terms_between c.args.low.now c.args.high.now terms c.requires.terms) none

pub returns-in-Some-nth : goal.returns-in-Some-nth
returns-in-Some-nth c =
    let terms = c.args.terms.now in
    let now = between by_mark c.args.low.now c.args.high.now terms in
    let get : slice_get terms c.in-Some.place ≡ Some c.in-Some-nth.pair.now = sym c.nth.ensures.pair ∙ ap (λ o. option_copied o) c.in-Some-nth.is in
    let page = page_at by_mark (on_total mark_of marks_total) c.args.low.now c.args.high.now c.args.start c.in-Some.place c.in-Some-nth.pair.now terms c.len-all.ensures.rising (c.in-Some.ensures.1 ∙ ap (λ n. n + c.args.start) c.requires.base) get in
    IfOk-weaker c.first_ids.result _ _ (λ ids e. e ∙ ap (λ l. map (λ e. e.0) (take c.args.size l)) (ap held (c.range.ensures.pairs ∙ page) ∙ held_drop c.args.start now (terms_between c.args.low.now c.args.high.now terms c.requires.terms))) c.first_ids.ensures

pub returns-in-None : goal.returns-in-None
returns-in-None c =
    let terms = c.args.terms.now in
    let get : slice_get terms c.in-Some.place ≡ None = sym c.nth.ensures.pair ∙ ap (λ o. option_copied o) c.in-None.is in
    let none = page_past by_mark (on_total mark_of marks_total) c.args.low.now c.args.high.now c.args.start c.in-Some.place terms c.len-all.ensures.rising (c.in-Some.ensures.1 ∙ ap (λ n. n + c.args.start) c.requires.base) (drop_past c.in-Some.place terms get) in
    ap (map folded) c.new-in-None.ensures ∙ page_none c.args.size c.args.start (between by_mark c.args.low.now c.args.high.now terms) (terms_between c.args.low.now c.args.high.now terms c.requires.terms) none
