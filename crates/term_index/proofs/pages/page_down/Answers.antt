use Rattle.std.proofs.Common.{◌≡◌, ◌-◌, ◌≤◌, ◌⊎◌, inl, inr, ◌++◌, map, take, drop, true, refl, ap, sym, ◌∙◌, arith}
use Rattle.spec_data.specs.Folding.{folded}
use Rattle.spec_query.specs.Sorting.{sorted}
use Rattle.paged_map.specs.Range.{between}
use Rattle.term_index.specs.Held.{held}
use Rattle.term_index.specs.KeyView.{by_mark}
use Rattle.term_index.specs.Ordered.{by_value}
use Rattle.term_index.proofs.Cuts.{page_begins, page_ends, page_step}
use Rattle.term_index.proofs.Lengths.{held_length}
use Rattle.term_index.proofs.Lined.{terms_between}
use Rattle.term_index.proofs.pages.page_down.Goals as goal
use Rattle.term_index.proofs.pages.page_down.Goals.{then-left-many, else-left-many, then-loop-left-test+else-skip-end, else-loop-left-test}

pub loop-left-init : goal.loop-left-init
loop-left-init c =
    let now = between by_mark c.args.low.now c.args.high.now c.args.terms.now in
    let all = held_length now (terms_between c.args.low.now c.args.high.now c.args.terms.now c.requires.terms) in
    record {
      within = omega (arith, c.count_between-end.ensures.count);
      found = λ long line.
          ap (λ l. map folded l ++ map (λ e. e.0) (take c.args.size (drop c.args.start (sorted (by_value long true) (take c.count_between-end.result (held now)))))) c.new-ids.ensures.items
          ∙ page_begins long (held now) c.count_between-end.result c.args.start c.args.size (c.count_between-end.ensures.count ∙ sym all);
    }

pub loop-left-preserved : goal.loop-left-preserved
loop-left-preserved c =
    let now = between by_mark c.args.low.now c.args.high.now c.args.terms.now in
    let all = held_length now (terms_between c.args.low.now c.args.high.now c.args.terms.now c.requires.terms) in
    let run = c.in_ok-first.ensures in
    let left = c.loop-left.left in
    let many = c.loop-left.end - c.loop-left.skip - c.in_ok-first.first in
    let bounds : (left ≤ many → c.if-left-many.many ≡ left) × (many ≤ left → c.if-left-many.many ≡ many) =
    elim c.if-left-many.branch [
      | then-left-many w ↦ (λ l. omega (arith, w.many-is), λ l. omega (arith, w.many-is, w.if-left-many.true, l))
      | else-left-many w ↦ (λ l. omega (arith, w.many-is, w.if-left-many.false, l), λ l. omega (arith, w.many-is))
    ] in
    record {
      within = omega (arith, run.from, run.upto, run.within, c.loop-left.invariant.within);
      found = λ long line.
          page_step long (held now) c.loop-left.ids.items c.in_ok-page_up.field-0 c.add.new.ids.items c.loop-left.end (c.loop-left.end - 1 - c.loop-left.skip) c.in_ok-first.first c.in_ok-first.past c.loop-left.skip left (c.in_ok-first.past - many) c.if-left-many.many
          run line (omega (arith, all, c.loop-left.invariant.within)) (omega arith) refl refl bounds.0 bounds.1 c.in_ok-page_up.ensures c.in_ok-add.ensures
          ∙ c.loop-left.invariant.found long line;
    }

pub returns : goal.returns
returns c = λ long line.
    let now = between by_mark c.args.low.now c.args.high.now c.args.terms.now in
    let all = held_length now (terms_between c.args.low.now c.args.high.now c.args.terms.now c.requires.terms) in
    let over : (c.loop-left.left ≡ 0) ⊎ (c.loop-left.end ≤ c.loop-left.skip) =
    elim c.loop-left-test.branch [
      | then-loop-left-test+else-skip-end w ↦ inr (omega (arith, w.if-skip-end.false))
      | else-loop-left-test w ↦ inl (omega (arith, w.loop-left-test.false))
    ] in
    ap (map folded) c.of.ensures
    ∙ (sym (page_ends long (held now) c.loop-left.ids.items c.loop-left.end c.loop-left.skip c.loop-left.left over (omega (arith, all, c.loop-left.invariant.within)))
    ∙ c.loop-left.invariant.found long line)
