use Rattle.std.proofs.Common.{◌≡◌, ◌-◌, ⊎_elim, true, false, sym, ◌∙◌, arith}
use Rattle.std.proofs.lemmas.Bool.{cases_lt}
use Rattle.term_index.proofs.Changing.{term_at}
use Rattle.term_index.proofs.Single.{kind_in_line, nulls_in_line}
use Rattle.term_index.proofs.one_run.are_in_line.Goals as goal
use Rattle.term_index.proofs.one_run.are_in_line.Goals.{then-run-nulls, else-run-nulls, then-is_of_order_at, else-is_of_order_at}

pub returns-then-first-run : goal.returns-then-first-run
returns-then-first-run c = λ known i t g l m.
    let es = c.args.terms.now in
    elim c.if-run-nulls.branch [
      | then-run-nulls w ↦ nulls_in_line c.args.long c.in_ok-edge.edge c.in_ok-edge.ensures es c.len-terms.ensures.rising i t g (omega (arith, m, w.first-is, c.if-first-run.true, c.in_ok-nulls.ensures))
      | else-run-nulls w ↦ absurd (omega (arith, l, m, w.first-is, c.if-first-run.true))
    ]

pub returns : goal.returns
returns c = λ known i t g l m.
    let es = c.args.terms.now in
    let long = c.args.long in
    let first = c.if-run-nulls.first in
    let end = c.args.run.end in
    ⊎_elim
    (λ lt. elim c.if-run-nulls.branch [
      | then-run-nulls w ↦ nulls_in_line long c.in_ok-edge.edge c.in_ok-edge.ensures es c.len-terms.ensures.rising i t g (omega (arith, lt, w.first-is, c.in_ok-nulls.ensures))
      | else-run-nulls w ↦ absurd (omega (arith, l, lt, w.first-is))
    ])
    (λ ge. elim c.if-is_of_order_at.branch [
      | then-is_of_order_at w ↦
          let low = term_at first es c.requires.terms (omega (arith, ge, m, c.requires.within)) in
          let high = term_at (end - 1) es c.requires.terms (omega (arith, m, c.requires.within)) in
          kind_in_line long es c.len-terms.ensures.rising i first (end - 1) t low.0 high.0 g low.1 high.1 ge (omega (arith, m))
          (c.is_of_order_at.ensures w.if-is_of_order_at.true first low.0 low.1 (omega arith) (omega arith))
          (w.is_of_order_at-then-is_of_order_at.ensures (sym w.result-is ∙ known) (end - 1) high.0 high.1 (omega arith) (omega arith))
      | else-is_of_order_at w ↦ absurd (no (sym w.if-is_of_order_at.false ∙ (sym w.result-is ∙ known)))
    ])
    (cases_lt i first)
  where
    no : false ≡ true → ⊥
    no h = absurd cc
