use Rattle.std.proofs.Common.{arith}
use Rattle.raven_json.proofs.Lengths.{one_digit, one_digit_more}
use Rattle.raven_json.proofs.measure.digits_of.Goals as goal

pub loop-rest-preserved : goal.loop-rest-preserved
loop-rest-preserved c =
    let more = one_digit_more c.loop-rest.rest (omega arith) (omega arith) in
    record { digits = omega arith; few = omega arith }

pub returns : goal.returns
returns c = let one = one_digit c.loop-rest.rest (omega arith) in omega arith
