use Rattle.std.proofs.Common.{◌≡◌, length}
use Rattle.reduce_grammar.specs.ReduceReading as spec
use Rattle.reduce_parser.proofs.keys.parts.Given as goal

abbrev pub invariant-loop-tokens : goal.invariant-loop-tokens
invariant-loop-tokens l = spec.parts l.fn.found l.fn.tokens.count l.fn.tokens.rest.now ≡ spec.parts l.found l.tokens.count l.tokens.rest.now

abbrev pub decreases-loop-tokens : goal.decreases-loop-tokens
decreases-loop-tokens l = length l.tokens.rest.now
