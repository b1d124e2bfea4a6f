use Rattle.std.proofs.Common.{arith}
use Rattle.std.proofs.lemmas.Fmt.{length-decimal-le_succ}
use Rattle.raven_json.proofs.measure.number_len.Goals as goal

pub overflow_add-result : goal.overflow_add-result
overflow_add-result c =
    let size = c.unsigned_abs.ensures.bound in
    let few = length-decimal-le_succ c.unsigned_abs.result (omega arith) in
    omega arith
