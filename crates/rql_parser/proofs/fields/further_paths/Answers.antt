use Rattle.std.proofs.Common.{rules, arith, ◌≡◌, ◌≤◌, ◌∙◌, length, true, false, sym, ap, subst}
use Rattle.std.proofs.lemmas.Grind.{common_steps}
use Rattle.exact_parse.specs.Steps.{head, tail, Read, and_then}
use Rattle.rql_tokens.specs.declared.token.Token.TheVariants as t
use Rattle.rql_tokens.specs.Words.{next_is}
use Rattle.rql_grammar.specs.FieldReading.{chain, added}
use Rattle.rql_grammar.specs.FieldReading.{counted_path}
use Rattle.rql_parser.proofs.Rules.{paths_end, paths_on, path_shorter, turn_shorter}
use Rattle.rql_parser.proofs.fields.further_paths.Goals as goal

pub returns-in_err-path : goal.returns-in_err-path
returns-in_err-path c =
    let e : next_is t.Comma (head c.loop-tokens.tokens.rest.now) ≡ true = sym c.loop-tokens-test.ensures in
    rw (c.loop-tokens.invariant ∙ paths_on c.loop-tokens.paths c.loop-tokens.tokens.count c.loop-tokens.tokens.rest.now e) (first_of (search rules, grind (arith, common_steps)))

pub loop-tokens-smaller : goal.loop-tokens-smaller
loop-tokens-smaller c =
    let e : next_is t.Comma (head c.loop-tokens.tokens.rest.now) ≡ true = sym c.loop-tokens-test.ensures in
    let read = path_shorter c.skip.new.self.count c.skip.new.self.rest.now c.in_ok-path.path c.counted_path.new.tokens.count c.counted_path.new.tokens.rest.now c.in_ok-path.ensures in
    turn_shorter t.Comma c.loop-tokens.tokens.rest.now c.counted_path.new.tokens.rest.now e (subst (λ z. length c.counted_path.new.tokens.rest.now ≤ length z) c.skip.ensures.rest read)

pub loop-tokens-preserved : goal.loop-tokens-preserved
loop-tokens-preserved c =
    let e : next_is t.Comma (head c.loop-tokens.tokens.rest.now) ≡ true = sym c.loop-tokens-test.ensures in
    let read : counted_path c.loop-tokens.tokens.count (tail c.loop-tokens.tokens.rest.now) ≡ Read c.in_ok-path.path c.counted_path.new.tokens.count c.counted_path.new.tokens.rest.now = rw (← c.skip.ensures.rest, ← c.skip.ensures.count) c.in_ok-path.ensures in
    c.loop-tokens.invariant ∙ paths_on c.loop-tokens.paths c.loop-tokens.tokens.count c.loop-tokens.tokens.rest.now e ∙ ap (λ o. and_then o (λ a. chain t.Comma counted_path added (added c.loop-tokens.paths a))) read
    ∙ ap (λ found. chain t.Comma counted_path added found c.counted_path.new.tokens.count c.counted_path.new.tokens.rest.now) (sym c.in_ok-push.ensures.ok)

pub returns : goal.returns
returns c =
    let e : next_is t.Comma (head c.loop-tokens.tokens.rest.now) ≡ false = sym c.loop-tokens-test.ensures in
    c.loop-tokens.invariant ∙ paths_end c.loop-tokens.paths c.loop-tokens.tokens.count c.loop-tokens.tokens.rest.now e
