use Rattle.std.proofs.Common.{[], ◌∷◌, ap, map, refl, string_bytes}
use Rattle.rql_print.specs.Print.{sort_text}
use Rattle.rql_print.proofs.Written.{left_is, one_part_more}
use Rattle.rql_print.proofs.clauses.add_order.Goals as goal

pub loop-sort-preserved : goal.loop-sort-preserved
unfolding lib.Utf8.encode
loop-sort-preserved c = (
  (44 ∷ 32 ∷ [], (refl, refl)),
  one_part_more (string_bytes c.loop-sort.out) (string_bytes c.add.new.out) (string_bytes c.add_sort.new.out) _ _ _ _ _
      (ap (map sort_text) (left_is c.args.sorts.now c.loop-sort.sort-index c.sort-item.result c.loop-sort-test.true c.sort-item.is)) c.in_ok-add.ensures c.in_ok-add_sort.ensures c.loop-sort.invariant.1,
)
