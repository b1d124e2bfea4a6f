use Rattle.std.proofs.Common.{arith}
use Rattle.raven_value.proofs.Digits.{tenfold}
use Rattle.raven_value.proofs.number.number_of.Goals as goal

pub overflow_mul-number : goal.overflow_mul-number
overflow_mul-number c = record { fits = omega (arith, tenfold c.loop-byte.number c.loop-byte.byte-index c.loop-byte.invariant.small (omega arith)) }

pub overflow_add-number : goal.overflow_add-number
overflow_add-number c =
    record { fits = omega (arith, c.if-not-is_ascii_digit.ensures.cases, tenfold c.loop-byte.number c.loop-byte.byte-index c.loop-byte.invariant.small (omega arith)) }
