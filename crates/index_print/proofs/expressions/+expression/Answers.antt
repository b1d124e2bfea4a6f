use Rattle.std.proofs.lemmas.Result.{on_ok_weaker}
use Rattle.index_print.proofs.Written.{five}
use Rattle.index_print.proofs.expressions.+expression.Goals as goal

pub add_load-returns : goal.add_load-returns
add_load-returns t c =
    on_ok_weaker c.add-3.result (λ e. five _ _ _ _ _ _ _ _ _ _ _ c.in_ok-add.ensures c.in_ok-add_expression.ensures c.in_ok-add-2.ensures c.in_ok-add_quoted.ensures e) c.add-3.ensures
