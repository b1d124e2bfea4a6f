use Rattle.std.proofs.Common.{rules, ◌≡◌, ◌+◌, ◌++◌, ◌∷◌, [], suc, length, drop, IsUtf8, arith, subst, sym, ap, ◌∙◌, append_assoc}
use Rattle.std.proofs.lemmas.Grind.{common_steps}
use Rattle.exact_tokens.proofs.Seams.{behind_ascii}
use Rattle.exact_tokens.proofs.TurnLemmas.{blank_ascii, has_bytes, fits}
use Rattle.index_tokens.specs.declared.token.Token.TheVariants as t
use Rattle.index_tokens.specs.Spelling.{spelled_by}
use Rattle.index_tokens.specs.Tokens.{placed, tokens_from, tokens_of}
use Rattle.index_tokens.proofs.TurnLemmas.{at_end, at_blank, at_token, all_longest}
use Rattle.index_tokens.proofs.reading.tokenise.Goals as goal

pub loop-byte-preserved-then-is_blank : goal.loop-byte-preserved-then-is_blank
loop-byte-preserved-then-is_blank c =
    let first = c.in-Some.ensures.cases.0 in
    let blank = sym c.is_blank.ensures ∙ c.if-is_blank.true in
    record {
      read = c.loop-byte.invariant.read ∙ ap (λ z. c.loop-byte.tokens.items ++ z) (at_blank _ _ _ c.loop-byte.at first blank);
      fits = omega (arith, c.in-Some.ensures.cases.1, c.loop-byte.invariant.fits);
      utf8 = behind_ascii _ _ (blank_ascii _ blank) (subst IsUtf8 first c.loop-byte.invariant.utf8);
    }

pub split_at-requires : goal.split_at-requires
split_at-requires c = fits spelled_by t.Bad _ _ _ _ _ c.in-Some.ensures.cases.0 c.in_ok-token.ensures.token

pub overflow_add-at-else-is_blank : goal.overflow_add-at-else-is_blank
overflow_add-at-else-is_blank c =
    let within = fits spelled_by t.Bad _ _ _ _ _ c.in-Some.ensures.cases.0 c.in_ok-token.ensures.token in
    record { fits = omega (arith, within, c.loop-byte.invariant.fits) }

pub loop-byte-smaller : goal.loop-byte-smaller
loop-byte-smaller c = omega (arith, c.split_at.ensures.back_len, has_bytes spelled_by t.Bad _ _ _ _ _ c.in-Some.ensures.cases.0 c.in_ok-token.ensures.token)

pub loop-byte-preserved : goal.loop-byte-preserved
loop-byte-preserved c =
    let first = c.in-Some.ensures.cases.0 in
    let same = c.in_ok-token.ensures.token in
    let other = sym c.is_blank.ensures ∙ c.if-is_blank.false in
    let token = at_token _ _ _ c.loop-byte.at _ _ first other same in
    let next = placed c.loop-byte.at c.in_ok-token.token in
    let behind = tokens_from (c.loop-byte.at + c.in_ok-token.len) 0 in
    record {
      read = c.loop-byte.invariant.read ∙ ap (λ z. c.loop-byte.tokens.items ++ z) token
          ∙ sym (append_assoc c.loop-byte.tokens.items (next ∷ []) (behind (drop c.in_ok-token.len c.loop-byte.rest.now)))
          ∙ ap (λ z. z ++ behind (drop c.in_ok-token.len c.loop-byte.rest.now)) (sym c.in_ok-push.ensures.items)
          ∙ ap (λ z. c.push.new.self.items ++ behind z) (sym c.split_at.ensures.back);
      fits = omega (arith, c.split_at.ensures.back_len, c.loop-byte.invariant.fits);
      utf8 = subst IsUtf8 (sym c.split_at.ensures.back) c.in_ok-token.ensures.rest;
    }

pub returns-clause-longest : goal.returns-clause-longest
returns-clause-longest c =
    let list : c.push-2.new.self.items ≡ tokens_of c.args.text.now = first_of (search rules, grind (arith, common_steps, at_end)) in
    all_longest c.args.text.now _ list
