use Rattle.std.proofs.Common.{◌≡◌, ◌-◌, Bool, IfOk, suc, map, take, drop, option_copied, ap, sym, subst, ◌∙◌, arith}
use Rattle.std.proofs.lemmas.Result.{IfOk-weaker}
use Rattle.spec_data.specs.Folding.{folded}
use Rattle.spec_query.specs.Sorting.{sorted}
use Rattle.paged_map.specs.Range.{between}
use Rattle.term_index.specs.Held.{Pairs, held}
use Rattle.term_index.specs.KeyView.{by_mark}
use Rattle.term_index.specs.Lines.{AllInLine}
use Rattle.term_index.specs.Ordered.{by_value}
use Rattle.term_index.proofs.Changing.{by_mark_total}
use Rattle.term_index.proofs.Places.{run_between, under_at}
use Rattle.term_index.proofs.Single.{up_of_run}
use Rattle.term_index.proofs.pages.page_of_run.Goals as goal

pub page_down-requires-clause-base : goal.page_down-requires-clause-base
page_down-requires-clause-base c =
    under_at by_mark by_mark_total c.args.terms.now c.args.run.start c.in-Some-Some.low.now c.len-terms.ensures.rising (sym c.nth.ensures.pair ∙ ap (λ o. option_copied o) c.in-Some-Some.is-0)

pub page_up-requires-clause-base : goal.page_up-requires-clause-base
page_up-requires-clause-base c =
    under_at by_mark by_mark_total c.args.terms.now c.args.run.start c.in-Some-Some.low.now c.len-terms.ensures.rising (sym c.nth.ensures.pair ∙ ap (λ o. option_copied o) c.in-Some-Some.is-0)

pub returns-then-desc : goal.returns-then-desc
returns-then-desc c =
    let es = c.args.terms.now in
    let start = c.args.run.start in
    let end = c.args.run.end in
    let low = c.in-Some-Some.low.now in
    let high = c.in-Some-Some.high.now in
    let get = sym c.nth.ensures.pair ∙ ap (λ o. option_copied o) c.in-Some-Some.is-0 in
    let last = sym c.nth-2.ensures.pair ∙ ap (λ o. option_copied o) c.in-Some-Some.is-1 in
    let is : between by_mark low.0 high.0 es ≡ take (end - start) (drop start es) =
    run_between by_mark by_mark_total es start (end - 1) low high c.len-terms.ensures.rising get last (omega (arith, c.if-run.false, c.requires.order))
    ∙ ap (λ n. take n (drop start es)) (let e : suc (end - 1) - start ≡ end - start = omega (arith, c.if-run.false, c.requires.order) in e) in
    subst (λ (run : Pairs). IfOk c.page_down.result (λ ids. (long : Bool) → AllInLine long (held run) → map folded ids ≡ map (λ e. e.0) (take c.args.size (drop c.args.start (sorted (by_value long c.args.desc) (held run)))))) is
    (subst (λ desc. IfOk c.page_down.result (λ ids. (long : Bool) → AllInLine long (held (between by_mark low.0 high.0 es)) → map folded ids ≡ map (λ e. e.0) (take c.args.size (drop c.args.start (sorted (by_value long desc) (held (between by_mark low.0 high.0 es))))))) (sym c.if-desc.true) c.page_down.ensures)

pub returns-else-desc : goal.returns-else-desc
returns-else-desc c =
    let es = c.args.terms.now in
    let start = c.args.run.start in
    let end = c.args.run.end in
    let low = c.in-Some-Some.low.now in
    let high = c.in-Some-Some.high.now in
    let get = sym c.nth.ensures.pair ∙ ap (λ o. option_copied o) c.in-Some-Some.is-0 in
    let last = sym c.nth-2.ensures.pair ∙ ap (λ o. option_copied o) c.in-Some-Some.is-1 in
    let is : between by_mark low.0 high.0 es ≡ take (end - start) (drop start es) =
    run_between by_mark by_mark_total es start (end - 1) low high c.len-terms.ensures.rising get last (omega (arith, c.if-run.false, c.requires.order))
    ∙ ap (λ n. take n (drop start es)) (let e : suc (end - 1) - start ≡ end - start = omega (arith, c.if-run.false, c.requires.order) in e) in
    IfOk-weaker c.page_up.result _ _ (λ ids found long line. found ∙ ap (λ l. map (λ e. e.0) (take c.args.size (drop c.args.start l))) (up_of_run long c.args.desc low.0 high.0 es (take (end - start) (drop start es)) c.len-terms.ensures.rising is c.if-desc.false line)) c.page_up.ensures
