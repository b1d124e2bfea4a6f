use Rattle.std.proofs.lemmas.Result.{on_ok_weaker}
use Rattle.index_print.proofs.Written.{six}
use Rattle.index_print.proofs.reduces.add_grouping.Goals as goal

pub returns : goal.returns
returns c =
    on_ok_weaker c.add_key.result (six _ _ _ _ _ _ _ _ _ _ _ _ _ c.in_ok-add.ensures c.in_ok-add-2.ensures c.in_ok-add-3.ensures c.in_ok-add-4.ensures c.in_ok-add-5.ensures) c.add_key.ensures
