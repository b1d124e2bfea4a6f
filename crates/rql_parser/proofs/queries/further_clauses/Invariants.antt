use Rattle.std.proofs.Common.{◌≡◌, length}
use Rattle.rql_parser.specs.Parts.{rest_of}
use Rattle.rql_parser.proofs.queries.further_clauses.Given as goal

-- what is read from the start is what is read from here
abbrev pub invariant-loop-section : goal.invariant-loop-section
invariant-loop-section l =
    rest_of (record { query = l.fn.query; passed = 0 }) l.fn.tokens.count l.fn.tokens.rest.now ≡ rest_of (record { query = l.query; passed = l.passed }) l.tokens.count l.tokens.rest.now

abbrev pub decreases-loop-section : goal.decreases-loop-section
decreases-loop-section l = length l.tokens.rest.now
