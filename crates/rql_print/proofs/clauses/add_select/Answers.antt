use Rattle.std.proofs.Common.{[], ◌∷◌, ap, map, refl, string_bytes}
use Rattle.rql_print.specs.Print.{column_text}
use Rattle.rql_print.proofs.Written.{left_is, one_part_more}
use Rattle.rql_print.proofs.clauses.add_select.Goals as goal

pub loop-column-preserved : goal.loop-column-preserved
unfolding lib.Utf8.encode
loop-column-preserved c = (
  (44 ∷ 32 ∷ [], (refl, refl)),
  one_part_more (string_bytes c.loop-column.out) (string_bytes c.add.new.out) (string_bytes c.add_column.new.out) _ _ _ _ _
      (ap (map column_text) (left_is c.args.columns.now c.loop-column.column-index c.column-item.result c.loop-column-test.true c.column-item.is)) c.in_ok-add.ensures c.in_ok-add_column.ensures c.loop-column.invariant.1,
)
