use Rattle.std.proofs.Common.{rules, arith, ◌≡◌, ◌∙◌, Some, None, sym, ap}
use Rattle.std.proofs.lemmas.Grind.{common_steps}
use Rattle.exact_parse.specs.Steps.{Read, and_then}
use Rattle.index_grammar.specs.MapReading as spec
use Rattle.index_parser.specs.Parts.{clause_if_any}
use Rattle.index_parser.proofs.Rules.{clause_then, clauses_turn, clause_shorter}
use Rattle.index_parser.proofs.maps.clauses.Goals as goal

pub returns-in_err-clause : goal.returns-in_err-clause
returns-in_err-clause c = rw (c.loop-found.invariant ∙ clauses_turn c.loop-found.found c.loop-found.tokens.count c.loop-found.tokens.rest.now) (first_of (search rules, grind (arith, common_steps)))

pub loop-found-smaller : goal.loop-found-smaller
loop-found-smaller c =
    let read : clause_if_any c.loop-found.tokens.count c.loop-found.tokens.rest.now ≡ Read (Some c.in-Some.clause) c.next_clause.new.tokens.count c.next_clause.new.tokens.rest.now =
    c.in_ok-clause.ensures ∙ ap (λ o. Read o c.next_clause.new.tokens.count c.next_clause.new.tokens.rest.now) c.in-Some.is in
    clause_shorter c.loop-found.tokens.count c.loop-found.tokens.rest.now c.in-Some.clause c.next_clause.new.tokens.count c.next_clause.new.tokens.rest.now read

pub loop-found-preserved : goal.loop-found-preserved
loop-found-preserved c =
    let read : clause_if_any c.loop-found.tokens.count c.loop-found.tokens.rest.now ≡ Read (Some c.in-Some.clause) c.next_clause.new.tokens.count c.next_clause.new.tokens.rest.now =
    c.in_ok-clause.ensures ∙ ap (λ o. Read o c.next_clause.new.tokens.count c.next_clause.new.tokens.rest.now) c.in-Some.is in
    c.loop-found.invariant ∙ clauses_turn c.loop-found.found c.loop-found.tokens.count c.loop-found.tokens.rest.now ∙ ap (λ o. and_then o (clause_then c.loop-found.found)) read
    ∙ ap (λ found. spec.clauses found c.next_clause.new.tokens.count c.next_clause.new.tokens.rest.now) (sym c.in_ok-push.ensures.ok)

pub returns : goal.returns
returns c =
    let read : clause_if_any c.loop-found.tokens.count c.loop-found.tokens.rest.now ≡ Read None c.next_clause.new.tokens.count c.next_clause.new.tokens.rest.now =
    c.in_ok-clause.ensures ∙ ap (λ o. Read o c.next_clause.new.tokens.count c.next_clause.new.tokens.rest.now) c.in_default.is in
    c.loop-found.invariant ∙ clauses_turn c.loop-found.found c.loop-found.tokens.count c.loop-found.tokens.rest.now ∙ ap (λ o. and_then o (clause_then c.loop-found.found)) read
