use Rattle.std.proofs.Common.{rules, arith, ◌≡◌, ◌≤◌, ◌∙◌, length, true, false, sym, ap, subst, map}
use Rattle.std.proofs.lemmas.Grind.{common_steps}
use Rattle.exact_parse.specs.Steps.{head, tail, Read, and_then}
use Rattle.rql_tokens.specs.declared.token.Token.TheVariants as t
use Rattle.rql_tokens.specs.Words.{next_is}
use Rattle.rql_grammar.specs.FieldReading.{chain, added}
use Rattle.rql_grammar.specs.FieldReading.{value}
use Rattle.rql_tree.specs.View.{operand_of}
use Rattle.rql_parser.proofs.Rules.{values_end, values_on, value_shorter, turn_shorter, map_added}
use Rattle.rql_parser.proofs.fields.further_values.Goals as goal

pub returns-in_err-value : goal.returns-in_err-value
returns-in_err-value c =
    let e : next_is t.Comma (head c.loop-tokens.tokens.rest.now) ≡ true = sym c.loop-tokens-test.ensures in
    rw (c.loop-tokens.invariant ∙ values_on (map operand_of c.loop-tokens.values) c.loop-tokens.tokens.count c.loop-tokens.tokens.rest.now e) (first_of (search rules, grind (arith, common_steps)))

pub loop-tokens-smaller : goal.loop-tokens-smaller
loop-tokens-smaller c =
    let e : next_is t.Comma (head c.loop-tokens.tokens.rest.now) ≡ true = sym c.loop-tokens-test.ensures in
    let read = value_shorter c.skip.new.self.count c.skip.new.self.rest.now (operand_of c.in_ok-value.value) c.value.new.tokens.count c.value.new.tokens.rest.now c.in_ok-value.ensures in
    turn_shorter t.Comma c.loop-tokens.tokens.rest.now c.value.new.tokens.rest.now e (subst (λ z. length c.value.new.tokens.rest.now ≤ length z) c.skip.ensures.rest read)

pub loop-tokens-preserved : goal.loop-tokens-preserved
loop-tokens-preserved c =
    let e : next_is t.Comma (head c.loop-tokens.tokens.rest.now) ≡ true = sym c.loop-tokens-test.ensures in
    let read : value c.loop-tokens.tokens.count (tail c.loop-tokens.tokens.rest.now) ≡ Read (operand_of c.in_ok-value.value) c.value.new.tokens.count c.value.new.tokens.rest.now = rw (← c.skip.ensures.rest, ← c.skip.ensures.count) c.in_ok-value.ensures in
    c.loop-tokens.invariant ∙ values_on (map operand_of c.loop-tokens.values) c.loop-tokens.tokens.count c.loop-tokens.tokens.rest.now e ∙ ap (λ o. and_then o (λ a. chain t.Comma value added (added (map operand_of c.loop-tokens.values) a))) read
    ∙ ap (λ found. chain t.Comma value added found c.value.new.tokens.count c.value.new.tokens.rest.now) (sym (ap (map operand_of) c.in_ok-push.ensures.ok ∙ map_added operand_of c.loop-tokens.values c.in_ok-value.value))

pub returns : goal.returns
returns c =
    let e : next_is t.Comma (head c.loop-tokens.tokens.rest.now) ≡ false = sym c.loop-tokens-test.ensures in
    c.loop-tokens.invariant ∙ values_end (map operand_of c.loop-tokens.values) c.loop-tokens.tokens.count c.loop-tokens.tokens.rest.now e
