use Rattle.std.proofs.Common.{◌≡◌, length}
use Rattle.index_grammar.specs.ExpressionReading as spec
use Rattle.index_parser.proofs.expressions.points.Given as goal

-- what is read from the start is what is read from here
abbrev pub invariant-loop-value : goal.invariant-loop-value
invariant-loop-value l = spec.points l.fn.value l.fn.tokens.count l.fn.tokens.rest.now ≡ spec.points l.value l.tokens.count l.tokens.rest.now

abbrev pub decreases-loop-value : goal.decreases-loop-value
decreases-loop-value l = length l.tokens.rest.now
