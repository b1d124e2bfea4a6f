use Rattle.std.proofs.Common.{rules, arith, ◌≡◌, ◌≤◌, ◌∙◌, length, true, false, sym, ap, subst}
use Rattle.std.proofs.lemmas.Grind.{common_steps}
use Rattle.exact_parse.specs.Steps.{head, tail, Read, and_then}
use Rattle.rql_tokens.specs.declared.token.Token.TheVariants as t
use Rattle.rql_tokens.specs.Words.{next_is}
use Rattle.rql_grammar.specs.FieldReading.{chain, added}
use Rattle.rql_grammar.specs.QueryReading.{one_column}
use Rattle.rql_parser.proofs.Rules.{columns_end, columns_on, column_shorter, turn_shorter}
use Rattle.rql_parser.proofs.queries.further_columns.Goals as goal

pub returns-in_err-column : goal.returns-in_err-column
returns-in_err-column c =
    let e : next_is t.Comma (head c.loop-tokens.tokens.rest.now) ≡ true = sym c.loop-tokens-test.ensures in
    rw (c.loop-tokens.invariant ∙ columns_on c.loop-tokens.columns c.loop-tokens.tokens.count c.loop-tokens.tokens.rest.now e) (first_of (search rules, grind (arith, common_steps)))

pub loop-tokens-smaller : goal.loop-tokens-smaller
loop-tokens-smaller c =
    let e : next_is t.Comma (head c.loop-tokens.tokens.rest.now) ≡ true = sym c.loop-tokens-test.ensures in
    let read = column_shorter c.skip.new.self.count c.skip.new.self.rest.now c.in_ok-column.column c.column.new.tokens.count c.column.new.tokens.rest.now c.in_ok-column.ensures in
    turn_shorter t.Comma c.loop-tokens.tokens.rest.now c.column.new.tokens.rest.now e (subst (λ z. length c.column.new.tokens.rest.now ≤ length z) c.skip.ensures.rest read)

pub loop-tokens-preserved : goal.loop-tokens-preserved
loop-tokens-preserved c =
    let e : next_is t.Comma (head c.loop-tokens.tokens.rest.now) ≡ true = sym c.loop-tokens-test.ensures in
    let read : one_column c.loop-tokens.tokens.count (tail c.loop-tokens.tokens.rest.now) ≡ Read c.in_ok-column.column c.column.new.tokens.count c.column.new.tokens.rest.now = rw (← c.skip.ensures.rest, ← c.skip.ensures.count) c.in_ok-column.ensures in
    c.loop-tokens.invariant ∙ columns_on c.loop-tokens.columns c.loop-tokens.tokens.count c.loop-tokens.tokens.rest.now e ∙ ap (λ o. and_then o (λ a. chain t.Comma one_column added (added c.loop-tokens.columns a))) read
    ∙ ap (λ found. chain t.Comma one_column added found c.column.new.tokens.count c.column.new.tokens.rest.now) (sym c.in_ok-push.ensures.ok)

pub returns : goal.returns
returns c =
    let e : next_is t.Comma (head c.loop-tokens.tokens.rest.now) ≡ false = sym c.loop-tokens-test.ensures in
    c.loop-tokens.invariant ∙ columns_end c.loop-tokens.columns c.loop-tokens.tokens.count c.loop-tokens.tokens.rest.now e
