use Rattle.std.proofs.Common.{◌≡◌, ◌++◌, [], drop, sym, ap, ◌∙◌, append_assoc}
use Rattle.std.proofs.lemmas.List.{append-nil, take_rest, drop_all}
use Rattle.reduce_folds.specs.Cells.{merged_row}
use Rattle.spec_index.specs.Rows.{key_order}
use Rattle.index_groups.proofs.Merging.{merged_lists, merged_nil}
use Rattle.index_groups.proofs.Parts.{merged_cells}
use Rattle.index_groups.proofs.together.merged.Goals as goal
use Rattle.index_groups.proofs.together.merged.Goals.{then-loop-at-test+else-by-b, else-loop-at-test}

pub returns : goal.returns
returns c = λ query es fs mine other.
    let a = drop c.loop-at.at c.args.a.now in
    let b = drop c.loop-at.by c.args.b.now in
    let groups = c.loop-at.groups.items in
    let all : c.add_all-2.new.groups.items ≡ (groups ++ a) ++ b = rw (c.in_ok-add_all-2.ensures, take_rest, c.in_ok-add_all.ensures, take_rest) in
    all ∙ append_assoc groups a b
    ∙ (elim c.loop-at-test.branch [
      | then-loop-at-test+else-by-b w ↦
          let none : b ≡ [] = drop_all c.loop-at.by c.args.b.now w.if-by-b.false in
          ap (λ l. groups ++ (a ++ l)) none ∙ ap (λ l. groups ++ l) (append-nil a ∙ sym (merged_nil key_order merged_row a)) ∙ sym (ap (λ l. groups ++ merged_lists key_order merged_row a l) none)
      | else-loop-at-test w ↦
          let none : a ≡ [] = drop_all c.loop-at.at c.args.a.now w.loop-at-test.false in
          ap (λ l. groups ++ (l ++ b)) none ∙ sym (ap (λ l. groups ++ merged_lists key_order merged_row l b) none)
    ]) ∙ c.loop-at.invariant.groups ∙ (λ i. merged_lists key_order merged_row (mine i) (other i)) ∙ merged_cells query es fs
