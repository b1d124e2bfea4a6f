-- With room for one more, the parts inside are those of the room that is left then; with none, there are none.
use Rattle.std.proofs.Common.{rules, arith, ◌≡◌, ◌∙◌, ◌-◌, ◌<◌, ◌≤◌, Some, None, length, ap}
use Rattle.std.proofs.lemmas.Grind.{common_steps}
use Rattle.exact_parse.specs.Steps.{head}
use Rattle.index_grammar.specs.ExpressionReading.{deeper_of, operator_at, conditional, load, unary}
use Rattle.index_parser.proofs.Rules.{climb_end, climb_full, climb_on, level_zero, level_on, deeper_on, deeper_none, operator_shorter, level_shorter}
use Rattle.index_parser.proofs.expressions.+expr.Goals as goal

pub conditional-returns-in_err-value : goal.conditional-returns-in_err-value
unfolding conditional
conditional-returns-in_err-value t c = rw (deeper_on c.args.room (omega arith)) (first_of (search rules, grind (arith, common_steps)))

pub conditional-returns-in_err-mark : goal.conditional-returns-in_err-mark
unfolding conditional
conditional-returns-in_err-mark t c = rw (deeper_on c.args.room (omega arith)) (first_of (search rules, grind (arith, common_steps)))

pub conditional-returns-in_err-other : goal.conditional-returns-in_err-other
unfolding conditional
conditional-returns-in_err-other t c = rw (deeper_on c.args.room (omega arith)) (first_of (search rules, grind (arith, common_steps)))

pub conditional-returns : goal.conditional-returns
unfolding conditional
conditional-returns t c = rw (deeper_on c.args.room (omega arith)) (first_of (search rules, grind (arith, common_steps)))

pub load-returns-in_err-id : goal.load-returns-in_err-id
unfolding load
load-returns-in_err-id t c = rw (deeper_on c.args.room (omega arith)) (first_of (search rules, grind (arith, common_steps)))

pub load-returns-in_err-mark : goal.load-returns-in_err-mark
unfolding load
load-returns-in_err-mark t c = rw (deeper_on c.args.room (omega arith)) (first_of (search rules, grind (arith, common_steps)))

pub load-returns-in_err-collection : goal.load-returns-in_err-collection
unfolding load
load-returns-in_err-collection t c = rw (deeper_on c.args.room (omega arith)) (first_of (search rules, grind (arith, common_steps)))

pub load-returns-in_err-mark-2 : goal.load-returns-in_err-mark-2
unfolding load
load-returns-in_err-mark-2 t c = rw (deeper_on c.args.room (omega arith)) (first_of (search rules, grind (arith, common_steps)))

pub load-returns : goal.load-returns
unfolding load
load-returns t c = rw (deeper_on c.args.room (omega arith)) (first_of (search rules, grind (arith, common_steps)))

pub parentheses-returns-in_err-value : goal.parentheses-returns-in_err-value
parentheses-returns-in_err-value t c = rw (deeper_on c.args.room (omega arith)) (first_of (search rules, grind (arith, common_steps)))

pub parentheses-returns-in_err-mark : goal.parentheses-returns-in_err-mark
parentheses-returns-in_err-mark t c = rw (deeper_on c.args.room (omega arith)) (first_of (search rules, grind (arith, common_steps)))

pub parentheses-returns : goal.parentheses-returns
parentheses-returns t c = rw (deeper_on c.args.room (omega arith)) (first_of (search rules, grind (arith, common_steps)))

pub unary-returns-in_err-operand : goal.unary-returns-in_err-operand
unfolding unary
unary-returns-in_err-operand t c = rw (deeper_on c.args.room (omega arith)) (first_of (search rules, grind (arith, common_steps)))

pub unary-returns : goal.unary-returns
unfolding unary
unary-returns t c = rw (deeper_on c.args.room (omega arith)) (first_of (search rules, grind (arith, common_steps)))

pub conditional-returns-then-room-eq0 : goal.conditional-returns-then-room-eq0
unfolding conditional
conditional-returns-then-room-eq0 t c = rw (deeper_none c.args.room (omega arith)) (first_of (search rules, grind (arith, common_steps)))

pub load-returns-then-room-eq0 : goal.load-returns-then-room-eq0
unfolding load
load-returns-then-room-eq0 t c = rw (deeper_none c.args.room (omega arith)) (first_of (search rules, grind (arith, common_steps)))

pub parentheses-returns-then-room-eq0 : goal.parentheses-returns-then-room-eq0
parentheses-returns-then-room-eq0 t c = rw (deeper_none c.args.room (omega arith)) (first_of (search rules, grind (arith, common_steps)))

pub unary-returns-then-room-eq0 : goal.unary-returns-then-room-eq0
unfolding unary
unary-returns-then-room-eq0 t c = rw (deeper_none c.args.room (omega arith)) (first_of (search rules, grind (arith, common_steps)))

pub binary-returns-then-level-eq0 : goal.binary-returns-then-level-eq0
binary-returns-then-level-eq0 t c = rw (level_zero (deeper_of c.args.room) c.args.level (omega arith)) (first_of (search rules, grind (arith, common_steps)))

pub binary-returns-in_err-left : goal.binary-returns-in_err-left
binary-returns-in_err-left t c = rw (level_on (deeper_of c.args.room) c.args.level c.args.tokens.now.count c.args.tokens.now.rest.now (omega arith)) (first_of (search rules, grind (arith, common_steps)))

pub binary-returns : goal.binary-returns
binary-returns t c = rw (level_on (deeper_of c.args.room) c.args.level c.args.tokens.now.count c.args.tokens.now.rest.now (omega arith)) (first_of (search rules, grind (arith, common_steps)))

pub climb-returns-then-tokens-ge-MAX_OPERATORS : goal.climb-returns-then-tokens-ge-MAX_OPERATORS
climb-returns-then-tokens-ge-MAX_OPERATORS t c =
    let e : operator_at c.args.level (head c.loop-operator.tokens.rest.now) ≡ Some c.in-Some.operator = first_of (search rules, grind (arith, common_steps)) in
    let h : 256 ≤ c.loop-operator.tokens.count = first_of (search rules, grind (arith, common_steps)) in
    c.loop-operator.invariant ∙ climb_full c.args.room (c.args.level - 1) c.args.level (omega arith) c.loop-operator.left c.loop-operator.tokens.count c.loop-operator.tokens.rest.now c.in-Some.operator e h

pub climb-returns-in_err-right : goal.climb-returns-in_err-right
climb-returns-in_err-right t c =
    let e : operator_at c.args.level (head c.loop-operator.tokens.rest.now) ≡ Some c.in-Some.operator = first_of (search rules, grind (arith, common_steps)) in
    let h : c.loop-operator.tokens.count < 256 = first_of (search rules, grind (arith, common_steps)) in
    rw (c.loop-operator.invariant ∙ climb_on c.args.room (c.args.level - 1) c.args.level (omega arith) c.loop-operator.left c.loop-operator.tokens.count c.loop-operator.tokens.rest.now c.in-Some.operator e h)
    (first_of (search rules, grind (arith, common_steps)))

pub climb-loop-operator-smaller : goal.climb-loop-operator-smaller
climb-loop-operator-smaller t c =
    let e : operator_at c.args.level (head c.loop-operator.tokens.rest.now) ≡ Some c.in-Some.operator = first_of (search rules, grind (arith, common_steps)) in
    let passed = operator_shorter c.args.level c.loop-operator.tokens.rest.now c.in-Some.operator e in
    let read = level_shorter c.args.room (c.args.level - 1) c.skip.new.self.count c.skip.new.self.rest.now c.in_ok-right.right c.binary.new.tokens.count c.binary.new.tokens.rest.now c.in_ok-right.ensures in
    omega (arith, passed, read, ap length c.skip.ensures.rest)

pub climb-loop-operator-preserved : goal.climb-loop-operator-preserved
climb-loop-operator-preserved t c =
    let e : operator_at c.args.level (head c.loop-operator.tokens.rest.now) ≡ Some c.in-Some.operator = first_of (search rules, grind (arith, common_steps)) in
    let h : c.loop-operator.tokens.count < 256 = first_of (search rules, grind (arith, common_steps)) in
    rw (c.loop-operator.invariant ∙ climb_on c.args.room (c.args.level - 1) c.args.level (omega arith) c.loop-operator.left c.loop-operator.tokens.count c.loop-operator.tokens.rest.now c.in-Some.operator e h)
    (first_of (search rules, grind (arith, common_steps)))

pub climb-returns : goal.climb-returns
climb-returns t c =
    let e : operator_at c.args.level (head c.loop-operator.tokens.rest.now) ≡ None = first_of (search rules, grind (arith, common_steps)) in
    c.loop-operator.invariant ∙ climb_end c.args.room (c.args.level - 1) c.args.level (omega arith) c.loop-operator.left c.loop-operator.tokens.count c.loop-operator.tokens.rest.now e
