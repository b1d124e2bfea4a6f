use Rattle.std.proofs.Common.{rules, arith, ◌≡◌, ◌≤◌, ◌∙◌, length, true, false, sym, ap, subst}
use Rattle.std.proofs.lemmas.Grind.{common_steps}
use Rattle.exact_parse.specs.Steps.{head, tail, Read, and_then}
use Rattle.rql_tokens.specs.declared.token.Token.TheVariants as t
use Rattle.rql_tokens.specs.Words.{next_is}
use Rattle.rql_grammar.specs.FieldReading.{chain, added}
use Rattle.rql_grammar.specs.FieldReading.{one_part}
use Rattle.rql_parser.proofs.Rules.{parts_end, parts_on, part_shorter, turn_shorter}
use Rattle.rql_parser.proofs.fields.further_parts.Goals as goal

pub returns-in_err-part : goal.returns-in_err-part
returns-in_err-part c =
    let e : next_is t.Point (head c.loop-tokens.tokens.rest.now) ≡ true = sym c.loop-tokens-test.ensures in
    rw (c.loop-tokens.invariant ∙ parts_on c.loop-tokens.path c.loop-tokens.tokens.count c.loop-tokens.tokens.rest.now e) (first_of (search rules, grind (arith, common_steps)))

pub loop-tokens-smaller : goal.loop-tokens-smaller
loop-tokens-smaller c =
    let e : next_is t.Point (head c.loop-tokens.tokens.rest.now) ≡ true = sym c.loop-tokens-test.ensures in
    let read = part_shorter c.skip.new.self.count c.skip.new.self.rest.now c.in_ok-part.part c.part.new.self.count c.part.new.self.rest.now c.in_ok-part.ensures in
    turn_shorter t.Point c.loop-tokens.tokens.rest.now c.part.new.self.rest.now e (subst (λ z. length c.part.new.self.rest.now ≤ length z) c.skip.ensures.rest read)

pub loop-tokens-preserved : goal.loop-tokens-preserved
loop-tokens-preserved c =
    let e : next_is t.Point (head c.loop-tokens.tokens.rest.now) ≡ true = sym c.loop-tokens-test.ensures in
    let read : one_part c.loop-tokens.tokens.count (tail c.loop-tokens.tokens.rest.now) ≡ Read c.in_ok-part.part c.part.new.self.count c.part.new.self.rest.now = rw (← c.skip.ensures.rest, ← c.skip.ensures.count) c.in_ok-part.ensures in
    c.loop-tokens.invariant ∙ parts_on c.loop-tokens.path c.loop-tokens.tokens.count c.loop-tokens.tokens.rest.now e ∙ ap (λ o. and_then o (λ a. chain t.Point one_part added (added c.loop-tokens.path a))) read
    ∙ ap (λ found. chain t.Point one_part added found c.part.new.self.count c.part.new.self.rest.now) (sym c.in_ok-push.ensures.ok)

pub returns : goal.returns
returns c =
    let e : next_is t.Point (head c.loop-tokens.tokens.rest.now) ≡ false = sym c.loop-tokens-test.ensures in
    c.loop-tokens.invariant ∙ parts_end c.loop-tokens.path c.loop-tokens.tokens.count c.loop-tokens.tokens.rest.now e
