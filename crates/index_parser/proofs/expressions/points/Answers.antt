use Rattle.std.proofs.Common.{rules, arith, ◌≡◌, ◌∙◌, ◌<◌, ◌≤◌, true, false}
use Rattle.std.proofs.lemmas.Grind.{common_steps}
use Rattle.exact_parse.specs.Steps.{head}
use Rattle.index_tokens.specs.declared.token.Token.TheVariants as t
use Rattle.index_tokens.specs.Words.{next_is}
use Rattle.index_parser.proofs.Rules.{points_end, points_full, points_on}
use Rattle.index_parser.proofs.expressions.points.Goals as goal

pub returns-then-tokens-ge-MAX_OPERATORS : goal.returns-then-tokens-ge-MAX_OPERATORS
returns-then-tokens-ge-MAX_OPERATORS c =
    let e : next_is t.Point (head c.loop-value.tokens.rest.now) ≡ true = first_of (search rules, grind (arith, common_steps)) in
    let h : 256 ≤ c.loop-value.tokens.count = first_of (search rules, grind (arith, common_steps)) in
    c.loop-value.invariant ∙ points_full c.loop-value.value c.loop-value.tokens.count c.loop-value.tokens.rest.now e h

pub returns-in_err-name : goal.returns-in_err-name
returns-in_err-name c =
    let e : next_is t.Point (head c.loop-value.tokens.rest.now) ≡ true = first_of (search rules, grind (arith, common_steps)) in
    let h : c.loop-value.tokens.count < 256 = first_of (search rules, grind (arith, common_steps)) in
    rw (c.loop-value.invariant ∙ points_on c.loop-value.value c.loop-value.tokens.count c.loop-value.tokens.rest.now e h) (first_of (search rules, grind (arith, common_steps)))

pub loop-value-preserved : goal.loop-value-preserved
loop-value-preserved c =
    let e : next_is t.Point (head c.loop-value.tokens.rest.now) ≡ true = first_of (search rules, grind (arith, common_steps)) in
    let h : c.loop-value.tokens.count < 256 = first_of (search rules, grind (arith, common_steps)) in
    rw (c.loop-value.invariant ∙ points_on c.loop-value.value c.loop-value.tokens.count c.loop-value.tokens.rest.now e h) (first_of (search rules, grind (arith, common_steps)))

pub returns : goal.returns
returns c =
    let e : next_is t.Point (head c.loop-value.tokens.rest.now) ≡ false = first_of (search rules, grind (arith, common_steps)) in
    c.loop-value.invariant ∙ points_end c.loop-value.value c.loop-value.tokens.count c.loop-value.tokens.rest.now e
