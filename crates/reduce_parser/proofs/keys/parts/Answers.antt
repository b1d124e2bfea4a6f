use Rattle.std.proofs.Common.{rules, arith, refl, sym, ◌∙◌}
use Rattle.std.proofs.lemmas.Grind.{common_steps}
use Rattle.reduce_parser.proofs.LoopLemmas.{parts_on, parts_end}
use Rattle.reduce_parser.proofs.keys.parts.Goals as goal

pub returns-in_err-part : goal.returns-in_err-part
returns-in_err-part c =
    let old = c.loop-tokens.tokens in let new = c.pass.new.self in let test = c.loop-tokens-test.ensures in
    rw (c.loop-tokens.invariant ∙ parts_on c.loop-tokens.found old.count new.count old.rest.now new.rest.now (sym test.passed) test.rest test.count) (first_of (search rules, grind (arith, common_steps)))

pub loop-tokens-preserved : goal.loop-tokens-preserved
loop-tokens-preserved c =
    let old = c.loop-tokens.tokens in let new = c.pass.new.self in let test = c.loop-tokens-test.ensures in
    c.loop-tokens.invariant ∙ parts_on c.loop-tokens.found old.count new.count old.rest.now new.rest.now (sym test.passed) test.rest test.count
    ∙ rw (c.in_ok-part.ensures.read, c.in_ok-push.ensures.ok) refl

pub returns : goal.returns
returns c =
    let old = c.loop-tokens.tokens in let new = c.pass.new.self in let test = c.loop-tokens-test.ensures in
    c.loop-tokens.invariant ∙ parts_end c.loop-tokens.found old.count new.count old.rest.now new.rest.now (sym test.passed) test.rest test.count
