use Rattle.std.proofs.Common.{[], ◌∷◌, ap, map, refl, string_bytes}
use Rattle.rql_print.specs.Print.{value_text}
use Rattle.rql_tree.specs.View.{operand_of}
use Rattle.rql_print.proofs.Written.{left_is, one_part_more}
use Rattle.rql_print.proofs.values.add_values.Goals as goal

pub loop-operand-preserved : goal.loop-operand-preserved
unfolding lib.Utf8.encode
loop-operand-preserved c = (
  (44 ∷ 32 ∷ [], (refl, refl)),
  one_part_more (string_bytes c.loop-operand.out) (string_bytes c.add.new.out) (string_bytes c.add_value.new.out) _ _ _ _ _
      (ap (λ xs. map value_text (map operand_of xs)) (left_is c.args.operands.now c.loop-operand.operand-index c.operand-item.result c.loop-operand-test.true c.operand-item.is)) c.in_ok-add.ensures c.in_ok-add_value.ensures c.loop-operand.invariant.1,
)
