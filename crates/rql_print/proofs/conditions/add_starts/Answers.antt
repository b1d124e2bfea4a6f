use Rattle.std.proofs.lemmas.Result.{on_ok_weaker}
use Rattle.rql_print.proofs.Written.{five}
use Rattle.rql_print.proofs.conditions.add_starts.Goals as goal

pub returns : goal.returns
returns c = on_ok_weaker c.add-3.result (five _ _ _ _ _ _ _ _ _ _ _ c.in_ok-add.ensures c.in_ok-add_field.ensures c.in_ok-add-2.ensures c.in_ok-add_value.ensures) c.add-3.ensures
