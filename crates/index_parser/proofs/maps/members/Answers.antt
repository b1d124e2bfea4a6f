use Rattle.std.proofs.Common.{rules, arith, ◌≡◌, ◌∙◌, ◌+◌, ◌-◌, true, false, sym, ap}
use Rattle.std.proofs.lemmas.Grind.{common_steps}
use Rattle.exact_parse.specs.Steps.{head}
use Rattle.index_tokens.specs.declared.token.Token.TheVariants as t
use Rattle.index_tokens.specs.Words.{next_is}
use Rattle.index_grammar.specs.MapReading as spec
use Rattle.index_parser.proofs.Rules.{members_on, members_close, members_comma, members_comma_close, members_more, members_none}
use Rattle.index_parser.proofs.maps.members.Goals as goal

pub returns-in_err-member : goal.returns-in_err-member
returns-in_err-member c = rw (c.loop-turn.invariant ∙ members_on (64 - c.loop-turn._turn) (64 - (c.loop-turn._turn + 1)) (omega arith) c.loop-turn.found c.loop-turn.tokens.count c.loop-turn.tokens.rest.now)
    (first_of (search rules, grind (arith, common_steps)))

pub returns-then-is_at : goal.returns-then-is_at
returns-then-is_at c =
    let e : next_is t.CloseBrace (head c.member.new.tokens.rest.now) ≡ true = first_of (search rules, grind (arith, common_steps)) in
    rw (c.loop-turn.invariant ∙ members_close (64 - c.loop-turn._turn) (64 - (c.loop-turn._turn + 1)) (omega arith) c.loop-turn.found c.loop-turn.tokens.count c.loop-turn.tokens.rest.now _ _ _ c.in_ok-member.ensures e)
    (first_of (search rules, grind (arith, common_steps)))

pub returns-in_err-mark : goal.returns-in_err-mark
returns-in_err-mark c =
    let e : next_is t.CloseBrace (head c.member.new.tokens.rest.now) ≡ false = first_of (search rules, grind (arith, common_steps)) in
    rw (c.loop-turn.invariant ∙ members_comma (64 - c.loop-turn._turn) (64 - (c.loop-turn._turn + 1)) (omega arith) c.loop-turn.found c.loop-turn.tokens.count c.loop-turn.tokens.rest.now _ _ _ c.in_ok-member.ensures e)
    (first_of (search rules, grind (arith, common_steps)))

pub returns-then-is_at-2 : goal.returns-then-is_at-2
returns-then-is_at-2 c =
    let e : next_is t.CloseBrace (head c.member.new.tokens.rest.now) ≡ false = first_of (search rules, grind (arith, common_steps)) in
    let f : next_is t.CloseBrace (head c.mark.new.self.rest.now) ≡ true = first_of (search rules, grind (arith, common_steps)) in
    rw (c.loop-turn.invariant ∙ members_comma_close (64 - c.loop-turn._turn) (64 - (c.loop-turn._turn + 1)) (omega arith) c.loop-turn.found c.loop-turn.tokens.count c.loop-turn.tokens.rest.now _ _ _ c.in_ok-member.ensures _ _ e c.in_ok-mark.ensures f)
    (first_of (search rules, grind (arith, common_steps)))

pub loop-turn-preserved : goal.loop-turn-preserved
loop-turn-preserved c =
    let e : next_is t.CloseBrace (head c.member.new.tokens.rest.now) ≡ false = first_of (search rules, grind (arith, common_steps)) in
    let f : next_is t.CloseBrace (head c.mark.new.self.rest.now) ≡ false = first_of (search rules, grind (arith, common_steps)) in
    c.loop-turn.invariant ∙ members_more (64 - c.loop-turn._turn) (64 - (c.loop-turn._turn + 1)) (omega arith) c.loop-turn.found c.loop-turn.tokens.count c.loop-turn.tokens.rest.now _ _ _ c.in_ok-member.ensures _ _ e c.in_ok-mark.ensures f
    ∙ ap (λ found. spec.members (64 - (c.loop-turn._turn + 1)) found c.mark.new.self.count c.mark.new.self.rest.now) (sym c.in_ok-push.ensures.ok)

pub returns : goal.returns
returns c = rw (c.loop-turn.invariant ∙ members_none (64 - c.loop-turn._turn) c.loop-turn.found c.loop-turn.tokens.count c.loop-turn.tokens.rest.now (omega arith)) (first_of (search rules, grind (arith, common_steps)))
