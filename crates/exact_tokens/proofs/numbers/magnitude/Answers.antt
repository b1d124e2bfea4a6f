use Rattle.std.proofs.Common.{arith, sym}
use Rattle.exact_tokens.proofs.NumberLemmas.{too_great}
use Rattle.exact_tokens.proofs.numbers.magnitude.Goals as goal

pub returns-then-number-most-clause-value : goal.returns-then-number-most-clause-value
returns-then-number-most-clause-value c =
    sym (too_great c.args.most c.args.digits.now _ _ c.loop-byte.number _ c.loop-byte.invariant.written c.in-Some.ensures.cases.0
    (omega (arith, c.if-number-most.true, c.saturating_sub.ensures, c.from-digit.ensures)))
