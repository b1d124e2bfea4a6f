use Rattle.std.proofs.Common.{◌≡◌, [], length}
use Rattle.index_grammar.specs.MapReading as spec
use Rattle.index_parser.proofs.maps.clauses.Given as goal

-- what is read from the start is what is read from here
abbrev pub invariant-loop-found : goal.invariant-loop-found
invariant-loop-found l = spec.clauses [] l.fn.tokens.count l.fn.tokens.rest.now ≡ spec.clauses l.found l.tokens.count l.tokens.rest.now

abbrev pub decreases-loop-found : goal.decreases-loop-found
decreases-loop-found l = length l.tokens.rest.now
