use Rattle.std.proofs.Common.{rules, arith, ◌≡◌, ◌≤◌, ◌<◌, ◌∙◌, length, Some, None, subst}
use Rattle.std.proofs.lemmas.Grind.{common_steps}
use Rattle.exact_parse.specs.Steps.{head}
use Rattle.rql_grammar.specs.Queries.{Begun}
use Rattle.rql_parser.specs.Parts.{rank_of}
use Rattle.rql_parser.proofs.Clauses.{next_of, rest_end, rest_late, rest_on, into_shorter, clause_shorter}
use Rattle.rql_parser.proofs.queries.further_clauses.Goals as goal

pub returns-then-rank-passed : goal.returns-then-rank-passed
returns-then-rank-passed c =
    let b : Begun = record { query = c.loop-section.query; passed = c.loop-section.passed } in
    let e : next_of b (head c.loop-section.tokens.rest.now) ≡ Some c.in-Some.section = first_of (search rules, grind (arith, common_steps)) in
    let h : rank_of c.in-Some.section ≤ c.loop-section.passed = first_of (search rules, grind (arith, common_steps)) in
    c.loop-section.invariant ∙ rest_late b c.loop-section.tokens.count c.loop-section.tokens.rest.now c.in-Some.section e h

pub returns-in_err-query : goal.returns-in_err-query
returns-in_err-query c =
    let b : Begun = record { query = c.loop-section.query; passed = c.loop-section.passed } in
    let e : next_of b (head c.loop-section.tokens.rest.now) ≡ Some c.in-Some.section = first_of (search rules, grind (arith, common_steps)) in
    let h : c.loop-section.passed < rank_of c.in-Some.section = first_of (search rules, grind (arith, common_steps)) in
    rw (c.loop-section.invariant ∙ rest_on b c.loop-section.tokens.count c.loop-section.tokens.rest.now c.in-Some.section e h) (first_of (search rules, grind (arith, common_steps)))

pub loop-section-smaller : goal.loop-section-smaller
loop-section-smaller c =
    let b : Begun = record { query = c.loop-section.query; passed = c.loop-section.passed } in
    let e : next_of b (head c.loop-section.tokens.rest.now) ≡ Some c.in-Some.section = first_of (search rules, grind (arith, common_steps)) in
    let read = into_shorter c.loop-section.query c.in-Some.section c.skip.new.self.count c.skip.new.self.rest.now _ c.clause.new.tokens.count c.clause.new.tokens.rest.now c.in_ok-query.ensures in
    clause_shorter b c.loop-section.tokens.rest.now c.clause.new.tokens.rest.now c.in-Some.section e (subst (λ z. length c.clause.new.tokens.rest.now ≤ length z) c.skip.ensures.rest read)

pub loop-section-preserved : goal.loop-section-preserved
loop-section-preserved c =
    let b : Begun = record { query = c.loop-section.query; passed = c.loop-section.passed } in
    let e : next_of b (head c.loop-section.tokens.rest.now) ≡ Some c.in-Some.section = first_of (search rules, grind (arith, common_steps)) in
    let h : c.loop-section.passed < rank_of c.in-Some.section = first_of (search rules, grind (arith, common_steps)) in
    rw (c.loop-section.invariant ∙ rest_on b c.loop-section.tokens.count c.loop-section.tokens.rest.now c.in-Some.section e h) (first_of (search rules, grind (arith, common_steps)))

pub returns : goal.returns
returns c =
    let b : Begun = record { query = c.loop-section.query; passed = c.loop-section.passed } in
    let e : next_of b (head c.loop-section.tokens.rest.now) ≡ None = first_of (search rules, grind (arith, common_steps)) in
    c.loop-section.invariant ∙ rest_end b c.loop-section.tokens.count c.loop-section.tokens.rest.now e
