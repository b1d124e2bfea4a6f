-- A longer part is read only behind a token that opens one; within one part the rules go down.
use Rattle.std.proofs.Common.{◌≡◌, ◌+◌, ◌-◌, ◌*◌, length}
use Rattle.index_grammar.specs.ExpressionReading as spec
use Rattle.index_grammar.specs.ExpressionReading.{deeper_of}
use Rattle.index_parser.proofs.expressions.+expr.Given as goal

abbrev pub decreases-whole : goal.decreases-whole
decreases-whole l = 20 * l.room + 18

abbrev pub decreases-binary : goal.decreases-binary
decreases-binary l = 20 * l.room + (2 * l.level + 5)

abbrev pub decreases-climb : goal.decreases-climb
decreases-climb l = 20 * l.room + (2 * l.level + 4)

abbrev pub decreases-unary : goal.decreases-unary
decreases-unary l = 20 * l.room + 4

abbrev pub decreases-post : goal.decreases-post
decreases-post l = 20 * l.room + 3

abbrev pub decreases-primary : goal.decreases-primary
decreases-primary l = 20 * l.room + 2

abbrev pub decreases-reserved : goal.decreases-reserved
decreases-reserved l = 20 * l.room + 1

abbrev pub decreases-load : goal.decreases-load
decreases-load l = 20 * l.room

abbrev pub decreases-parentheses : goal.decreases-parentheses
decreases-parentheses l = 20 * l.room

abbrev pub decreases-conditional : goal.decreases-conditional
decreases-conditional l = 20 * l.room

-- what is read from the start is what is read from here
abbrev pub invariant-climb-loop-operator : goal.invariant-climb-loop-operator
invariant-climb-loop-operator l = spec.climb (spec.level (deeper_of l.room) (l.level - 1)) l.level l.fn.left l.fn.tokens.count l.fn.tokens.rest.now
    ≡ spec.climb (spec.level (deeper_of l.room) (l.level - 1)) l.level l.left l.tokens.count l.tokens.rest.now

abbrev pub decreases-climb-loop-operator : goal.decreases-climb-loop-operator
decreases-climb-loop-operator l = length l.tokens.rest.now
