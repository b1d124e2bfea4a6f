use Rattle.std.proofs.Common.{◌≡◌, ◌-◌, []}
use Rattle.reduce_grammar.specs.ReduceReading as spec
use Rattle.reduce_parser.proofs.folds.members.Given as goal

abbrev pub invariant-loop-turn : goal.invariant-loop-turn
invariant-loop-turn l = spec.folds l.fn.group l.fn.form 64 [] l.fn.tokens.count l.fn.tokens.rest.now ≡ spec.folds l.fn.group l.fn.form (64 - l._turn) l.found l.tokens.count l.tokens.rest.now
