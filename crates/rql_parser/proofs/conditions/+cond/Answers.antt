-- With room for one more, the parts inside are those of the room that is left then; with none, there are none.
use Rattle.std.proofs.Common.{rules, arith, ◌≡◌, ◌≤◌, ◌∙◌, ◌-◌, length, true, false, sym, ap, subst}
use Rattle.std.proofs.lemmas.Grind.{common_steps}
use Rattle.exact_parse.specs.Steps.{head, tail, Read, and_then}
use Rattle.spec_query.specs.Query.{Cond}
use Rattle.rql_tokens.specs.declared.key_words.KeyWord.TheVariants as k
use Rattle.rql_tokens.specs.declared.token.Token.TheVariants as t
use Rattle.rql_tokens.specs.Words.{next_is}
use Rattle.rql_grammar.specs.FieldReading.{chain}
use Rattle.rql_grammar.specs.ConditionReading.{conjunction, deeper_of, negation}
use Rattle.rql_parser.proofs.Rules.{turn_shorter}
use Rattle.rql_parser.proofs.ConditionRules.{deeper_on, deeper_none, and_end, and_on, or_end, or_on, negation_shorter, conjunction_shorter}
use Rattle.rql_parser.proofs.conditions.+cond.Goals as goal

pub negation-returns-in_err-inner : goal.negation-returns-in_err-inner
unfolding negation
negation-returns-in_err-inner g c = rw (deeper_on c.args.room (omega arith)) (first_of (search rules, grind (arith, common_steps)))

pub negation-returns : goal.negation-returns
unfolding negation
negation-returns g c = rw (deeper_on c.args.room (omega arith)) (first_of (search rules, grind (arith, common_steps)))

pub negation-returns-then-room-eq0 : goal.negation-returns-then-room-eq0
unfolding negation
negation-returns-then-room-eq0 g c = rw (deeper_none c.args.room (omega arith)) (first_of (search rules, grind (arith, common_steps)))

pub parentheses-returns-in_err-inner : goal.parentheses-returns-in_err-inner
parentheses-returns-in_err-inner g c = rw (deeper_on c.args.room (omega arith)) (first_of (search rules, grind (arith, common_steps)))

pub parentheses-returns-in_err-mark : goal.parentheses-returns-in_err-mark
parentheses-returns-in_err-mark g c = rw (deeper_on c.args.room (omega arith)) (first_of (search rules, grind (arith, common_steps)))

pub parentheses-returns : goal.parentheses-returns
parentheses-returns g c = rw (deeper_on c.args.room (omega arith)) (first_of (search rules, grind (arith, common_steps)))

pub parentheses-returns-then-room-eq0 : goal.parentheses-returns-then-room-eq0
parentheses-returns-then-room-eq0 g c = rw (deeper_none c.args.room (omega arith)) (first_of (search rules, grind (arith, common_steps)))

pub exactly-returns-in_err-mark : goal.exactly-returns-in_err-mark
exactly-returns-in_err-mark g c = rw (deeper_on c.args.room (omega arith)) (first_of (search rules, grind (arith, common_steps)))

pub exactly-returns-in_err-inner : goal.exactly-returns-in_err-inner
exactly-returns-in_err-inner g c = rw (deeper_on c.args.room (omega arith)) (first_of (search rules, grind (arith, common_steps)))

pub exactly-returns-in_err-mark-2 : goal.exactly-returns-in_err-mark-2
exactly-returns-in_err-mark-2 g c = rw (deeper_on c.args.room (omega arith)) (first_of (search rules, grind (arith, common_steps)))

pub exactly-returns : goal.exactly-returns
exactly-returns g c = rw (deeper_on c.args.room (omega arith)) (first_of (search rules, grind (arith, common_steps)))

pub exactly-returns-then-room-eq0 : goal.exactly-returns-then-room-eq0
exactly-returns-then-room-eq0 g c = rw (deeper_none c.args.room (omega arith)) (first_of (search rules, grind (arith, common_steps)))

pub ands-returns-in_err-right : goal.ands-returns-in_err-right
ands-returns-in_err-right g c =
    let e : next_is (t.Key k.And) (head c.loop-tokens.tokens.rest.now) ≡ true = sym c.loop-tokens-test.ensures in
    rw (c.loop-tokens.invariant ∙ and_on c.args.room c.loop-tokens.left c.loop-tokens.tokens.count c.loop-tokens.tokens.rest.now e) (first_of (search rules, grind (arith, common_steps)))

pub ands-loop-tokens-smaller : goal.ands-loop-tokens-smaller
ands-loop-tokens-smaller g c =
    let e : next_is (t.Key k.And) (head c.loop-tokens.tokens.rest.now) ≡ true = sym c.loop-tokens-test.ensures in
    let read = negation_shorter c.args.room c.skip.new.self.count c.skip.new.self.rest.now c.in_ok-right.right c.negation.new.tokens.count c.negation.new.tokens.rest.now c.in_ok-right.ensures in
    turn_shorter (t.Key k.And) c.loop-tokens.tokens.rest.now c.negation.new.tokens.rest.now e (subst (λ z. length c.negation.new.tokens.rest.now ≤ length z) c.skip.ensures.rest read)

pub ands-loop-tokens-preserved : goal.ands-loop-tokens-preserved
ands-loop-tokens-preserved g c =
    let e : next_is (t.Key k.And) (head c.loop-tokens.tokens.rest.now) ≡ true = sym c.loop-tokens-test.ensures in
    let read : negation (deeper_of c.args.room) c.loop-tokens.tokens.count (tail c.loop-tokens.tokens.rest.now) ≡ Read c.in_ok-right.right c.negation.new.tokens.count c.negation.new.tokens.rest.now = rw (← c.skip.ensures.rest, ← c.skip.ensures.count) c.in_ok-right.ensures in
    c.loop-tokens.invariant ∙ and_on c.args.room c.loop-tokens.left c.loop-tokens.tokens.count c.loop-tokens.tokens.rest.now e
    ∙ ap (λ o. and_then o (λ b. chain (t.Key k.And) (negation (deeper_of c.args.room)) Cond.And (Cond.And c.loop-tokens.left b))) read
    ∙ ap (λ a. chain (t.Key k.And) (negation (deeper_of c.args.room)) Cond.And a c.negation.new.tokens.count c.negation.new.tokens.rest.now) (sym c.in_ok-left.ensures)

pub ands-returns : goal.ands-returns
ands-returns g c =
    let e : next_is (t.Key k.And) (head c.loop-tokens.tokens.rest.now) ≡ false = sym c.loop-tokens-test.ensures in
    c.loop-tokens.invariant ∙ and_end c.args.room c.loop-tokens.left c.loop-tokens.tokens.count c.loop-tokens.tokens.rest.now e

pub ors-returns-in_err-right : goal.ors-returns-in_err-right
ors-returns-in_err-right g c =
    let e : next_is (t.Key k.Or) (head c.loop-tokens.tokens.rest.now) ≡ true = sym c.loop-tokens-test.ensures in
    rw (c.loop-tokens.invariant ∙ or_on c.args.room c.loop-tokens.left c.loop-tokens.tokens.count c.loop-tokens.tokens.rest.now e) (first_of (search rules, grind (arith, common_steps)))

pub ors-loop-tokens-smaller : goal.ors-loop-tokens-smaller
ors-loop-tokens-smaller g c =
    let e : next_is (t.Key k.Or) (head c.loop-tokens.tokens.rest.now) ≡ true = sym c.loop-tokens-test.ensures in
    let read = conjunction_shorter c.args.room c.skip.new.self.count c.skip.new.self.rest.now c.in_ok-right.right c.conjunction.new.tokens.count c.conjunction.new.tokens.rest.now c.in_ok-right.ensures in
    turn_shorter (t.Key k.Or) c.loop-tokens.tokens.rest.now c.conjunction.new.tokens.rest.now e (subst (λ z. length c.conjunction.new.tokens.rest.now ≤ length z) c.skip.ensures.rest read)

pub ors-loop-tokens-preserved : goal.ors-loop-tokens-preserved
ors-loop-tokens-preserved g c =
    let e : next_is (t.Key k.Or) (head c.loop-tokens.tokens.rest.now) ≡ true = sym c.loop-tokens-test.ensures in
    let read : conjunction (deeper_of c.args.room) c.loop-tokens.tokens.count (tail c.loop-tokens.tokens.rest.now) ≡ Read c.in_ok-right.right c.conjunction.new.tokens.count c.conjunction.new.tokens.rest.now = rw (← c.skip.ensures.rest, ← c.skip.ensures.count) c.in_ok-right.ensures in
    c.loop-tokens.invariant ∙ or_on c.args.room c.loop-tokens.left c.loop-tokens.tokens.count c.loop-tokens.tokens.rest.now e
    ∙ ap (λ o. and_then o (λ b. chain (t.Key k.Or) (conjunction (deeper_of c.args.room)) Cond.Or (Cond.Or c.loop-tokens.left b))) read
    ∙ ap (λ a. chain (t.Key k.Or) (conjunction (deeper_of c.args.room)) Cond.Or a c.conjunction.new.tokens.count c.conjunction.new.tokens.rest.now) (sym c.in_ok-left.ensures)

pub ors-returns : goal.ors-returns
ors-returns g c =
    let e : next_is (t.Key k.Or) (head c.loop-tokens.tokens.rest.now) ≡ false = sym c.loop-tokens-test.ensures in
    c.loop-tokens.invariant ∙ or_end c.args.room c.loop-tokens.left c.loop-tokens.tokens.count c.loop-tokens.tokens.rest.now e
