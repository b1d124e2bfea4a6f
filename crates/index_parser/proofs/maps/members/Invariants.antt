use Rattle.std.proofs.Common.{◌≡◌, ◌-◌, []}
use Rattle.index_grammar.specs.MapReading as spec
use Rattle.index_parser.proofs.maps.members.Given as goal

-- what is read from the start is what is read from here
abbrev pub invariant-loop-turn : goal.invariant-loop-turn
invariant-loop-turn l = spec.members 64 [] l.fn.tokens.count l.fn.tokens.rest.now ≡ spec.members (64 - l._turn) l.found l.tokens.count l.tokens.rest.now
