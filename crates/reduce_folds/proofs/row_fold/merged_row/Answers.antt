use Rattle.std.proofs.Common.{◌≡◌, ◌++◌, [], drop, sym, ap, ◌∙◌, append_assoc}
use Rattle.std.proofs.lemmas.List.{append-nil, take_rest, drop_all}
use Rattle.reduce_folds.specs.Cells.{merged_row}
use Rattle.reduce_folds.specs.CellLaws.{row_nil}
use Rattle.reduce_folds.proofs.row_fold.merged_row.Goals as goal
use Rattle.reduce_folds.proofs.row_fold.merged_row.Goals.{then-loop-at-test+else-at-b, else-loop-at-test}

pub returns : goal.returns
returns c =
    let a = drop c.loop-at.at c.args.a.now in
    let b = drop c.loop-at.at c.args.b.now in
    let all : c.extend-2.new.self ≡ (c.loop-at.cells ++ a) ++ b = rw (c.in_ok-extend-2.ensures.ok, c.in_ok-extend.ensures.ok, take_rest, take_rest) in
    all ∙ append_assoc c.loop-at.cells a b
    ∙ (elim c.loop-at-test.branch [
      | then-loop-at-test+else-at-b w ↦
          let none : b ≡ [] = drop_all c.loop-at.at c.args.b.now w.if-at-b.false in
          ap (λ l. c.loop-at.cells ++ (a ++ l)) none ∙ ap (λ l. c.loop-at.cells ++ l) (append-nil a ∙ sym (row_nil a)) ∙ sym (ap (λ l. c.loop-at.cells ++ merged_row a l) none)
      | else-loop-at-test w ↦
          let none : a ≡ [] = drop_all c.loop-at.at c.args.a.now w.loop-at-test.false in
          ap (λ l. c.loop-at.cells ++ (l ++ b)) none ∙ sym (ap (λ l. c.loop-at.cells ++ merged_row l b) none)
    ]) ∙ c.loop-at.invariant.cells
