use Rattle.std.proofs.Common.{rules, arith, ◌+◌, ◌-◌, refl, ◌∙◌}
use Rattle.std.proofs.lemmas.Grind.{common_steps}
use Rattle.reduce_parser.proofs.LoopLemmas.{folds_on, folds_end}
use Rattle.reduce_parser.proofs.folds.members.Goals as goal

pub returns-in_err-member : goal.returns-in_err-member
returns-in_err-member c = rw (c.loop-turn.invariant ∙ folds_on c.args.group.now c.args.form.now (64 - c.loop-turn._turn) (64 - (c.loop-turn._turn + 1)) c.loop-turn.found c.loop-turn.tokens.count c.loop-turn.tokens.rest.now (omega (arith, c.loop-turn-test.true)))
    (first_of (search rules, grind (arith, common_steps)))

pub returns-in_err-ends : goal.returns-in_err-ends
returns-in_err-ends c = rw (c.loop-turn.invariant ∙ folds_on c.args.group.now c.args.form.now (64 - c.loop-turn._turn) (64 - (c.loop-turn._turn + 1)) c.loop-turn.found c.loop-turn.tokens.count c.loop-turn.tokens.rest.now (omega (arith, c.loop-turn-test.true)))
    (first_of (search rules, grind (arith, common_steps)))

pub returns-then-branch : goal.returns-then-branch
returns-then-branch c = c.loop-turn.invariant ∙ folds_on c.args.group.now c.args.form.now (64 - c.loop-turn._turn) (64 - (c.loop-turn._turn + 1)) c.loop-turn.found c.loop-turn.tokens.count c.loop-turn.tokens.rest.now (omega (arith, c.loop-turn-test.true))
    ∙ rw (c.in_ok-member.ensures, c.in_ok-ends.ensures, c.if-branch.true, c.in_ok-push.ensures.ok) refl

pub loop-turn-preserved : goal.loop-turn-preserved
loop-turn-preserved c = c.loop-turn.invariant ∙ folds_on c.args.group.now c.args.form.now (64 - c.loop-turn._turn) (64 - (c.loop-turn._turn + 1)) c.loop-turn.found c.loop-turn.tokens.count c.loop-turn.tokens.rest.now (omega (arith, c.loop-turn-test.true))
    ∙ rw (c.in_ok-member.ensures, c.in_ok-ends.ensures, c.if-branch.false, c.in_ok-push.ensures.ok) refl

pub returns : goal.returns
returns c = rw (c.loop-turn.invariant ∙ folds_end c.args.group.now c.args.form.now (64 - c.loop-turn._turn) c.loop-turn.found c.loop-turn.tokens.count c.loop-turn.tokens.rest.now (omega (arith, c.loop-turn-test.false))) c.no_room.ensures
