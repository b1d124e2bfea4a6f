use Rattle.std.proofs.Common.{◌≡◌, ◌+◌, ◌++◌, ◌<◌, Some, suc, length, IsUtf8, arith, subst, sym, ap, ◌∙◌}
use Rattle.exact_tokens.specs.Passes.{text_from}
use Rattle.exact_tokens.proofs.QuotedLemmas.{at_quote, at_escape, at_raw, meant_ascii, drop_more, drop_two, escape_utf8, raw_utf8, value_utf8, closed_utf8}
use Rattle.exact_tokens.proofs.texts.quoted.Goals as goal

pub string_of-requires : goal.string_of-requires
string_of-requires c =
    let small = subst (λ b. b < 128) (sym c.if-byte-quote.true) c.requires.quote in
    value_utf8 c.loop-byte.value.items _ _ _ c.in-Some.ensures.cases.0 small c.loop-byte.invariant.utf8

pub returns-then-byte-quote-clause-read : goal.returns-then-byte-quote-clause-read
returns-then-byte-quote-clause-read c =
    ap (λ v. Some (v, c.loop-byte.len + 1)) c.string_of.ensures
    ∙ sym (c.loop-byte.invariant.read ∙ at_quote c.args.quote c.args.escapes.now c.loop-byte.value.items _ _ c.loop-byte.len _ c.in-Some.ensures.cases.0 c.if-byte-quote.true)

pub returns-then-byte-quote-clause-rest : goal.returns-then-byte-quote-clause-rest
returns-then-byte-quote-clause-rest c =
    let small = subst (λ b. b < 128) (sym c.if-byte-quote.true) c.requires.quote in
    closed_utf8 c.loop-byte.value.items _ _ c.args.bytes.now _ c.loop-byte.len c.in-Some.ensures.cases.0 small c.loop-byte.invariant.left c.loop-byte.invariant.utf8

pub loop-byte-preserved-then-byte-eq92 : goal.loop-byte-preserved-then-byte-eq92
loop-byte-preserved-then-byte-eq92 c =
    let first = c.in-Some.ensures.cases.0 in
    let next = c.in-Some-split_first.ensures.cases.0 in
    let pushed = c.in_ok-push.ensures.items in
    let meant = sym c.in-Some-meant_by.ensures in
    let small = meant_ascii c.args.escapes.now _ _ c.requires.escapes meant in
    let one : length c.loop-byte.rest.now ≡ suc (length c.in-Some.more.now) = ap length first in
    let two : length c.in-Some.more.now ≡ suc (length c.in-Some-split_first.behind.now) = ap length next in
    record {
      read = c.loop-byte.invariant.read ∙ at_escape c.args.quote c.args.escapes.now c.loop-byte.value.items _ _ _ c.loop-byte.len _ _ _ first c.if-byte-quote.false c.if-byte-eq92.true next meant
          ∙ ap (λ v. text_from c.args.quote c.args.escapes.now v (c.loop-byte.len + 2) c.in-Some-split_first.behind.now) (sym pushed);
      fits = omega (arith, one, two, c.loop-byte.invariant.fits);
      left = drop_two _ _ _ c.args.bytes.now _ _ c.loop-byte.len first next c.loop-byte.invariant.left;
      utf8 = subst (λ v. IsUtf8 (v ++ c.in-Some-split_first.behind.now)) (sym pushed)
          (escape_utf8 c.loop-byte.value.items _ _ _ _ _ _ first next c.if-byte-eq92.true small.0 small.1 c.loop-byte.invariant.utf8);
    }

pub loop-byte-preserved : goal.loop-byte-preserved
loop-byte-preserved c =
    let first = c.in-Some.ensures.cases.0 in
    let pushed = c.in_ok-push-2.ensures.items in
    let raw = sym c.is_raw.ensures ∙ c.if-is_raw.true in
    let one : length c.loop-byte.rest.now ≡ suc (length c.in-Some.more.now) = ap length first in
    record {
      read = c.loop-byte.invariant.read ∙ at_raw c.args.quote c.args.escapes.now c.loop-byte.value.items _ _ c.loop-byte.len _ first c.if-byte-quote.false c.if-byte-eq92.false raw
          ∙ ap (λ v. text_from c.args.quote c.args.escapes.now v (c.loop-byte.len + 1) c.in-Some.more.now) (sym pushed);
      fits = omega (arith, one, c.loop-byte.invariant.fits);
      left = sym (drop_more _ _ c.args.bytes.now _ c.loop-byte.len first c.loop-byte.invariant.left);
      utf8 = subst (λ v. IsUtf8 (v ++ c.in-Some.more.now)) (sym pushed) (raw_utf8 c.loop-byte.value.items _ _ _ first c.loop-byte.invariant.utf8);
    }
