use Rattle.std.proofs.Common.{◌≡◌, ◌+◌, ◌-◌, ◌/◌, ◌<◌, ◌≤◌, true, false, sym, ap, ◌∙◌, arith}
use Rattle.spec_data.specs.Scalars.{holds}
use Rattle.raven_value.specs.ScalarView.{scalar_view, test_view}
use Rattle.term_index.proofs.Changing.{fewer_first, get_within, met_up_to, no_value, one_value, term_at, unmet_from}
use Rattle.term_index.proofs.steps.past_prefix.Goals as goal

pub loop-first-init : goal.loop-first-init
loop-first-init c =
    let es = c.args.terms.now in
    record {
      from = omega arith;
      order = omega (arith, c.requires.start, c.len-end.ensures.count, fewer_first c.args.low.now es);
      within = omega (arith, c.len-end.ensures.count);
      met = λ i t g f l. absurd (omega (arith, f, l));
      unmet = λ i t g l. absurd (omega (arith, l, c.len-end.ensures.count, get_within i es _ g));
    }

pub loop-first-preserved-then-matches : goal.loop-first-preserved-then-matches
loop-first-preserved-then-matches c =
    let es = c.args.terms.now in
    let test = test_view c.args.test.now in
    let middle = c.loop-first.first + (c.loop-first.end - c.loop-first.first) / 2 in
    let low : c.loop-first.first ≤ middle = omega arith in
    let high : middle < c.loop-first.end = omega (arith, c.loop-first-test.true) in
    let at = term_at middle es c.requires.terms (omega (arith, high, c.loop-first.invariant.within)) in
    let value = one_value (λ v. scalar_view v.now) c.value_at.result c.in-Some.value (scalar_view at.0.value) (c.value_at.ensures at.0 at.1) c.in-Some.is in
    let meets : holds test false (scalar_view at.0.value) ≡ true = ap (holds test false) (sym value) ∙ (sym c.matches.ensures ∙ c.if-matches.true) in
    record {
      from = omega (arith, low, c.loop-first.invariant.from);
      order = omega (arith, high);
      within = c.loop-first.invariant.within;
      met = λ i t g f l. met_up_to test c.requires.prefix c.args.low.now c.requires.low es c.len-end.ensures.rising c.args.start c.requires.start middle at.0 at.1 (omega (arith, low, c.loop-first.invariant.from)) meets i t g f (omega (arith, l));
      unmet = c.loop-first.invariant.unmet;
    }

pub loop-first-preserved-in_default : goal.loop-first-preserved-in_default
loop-first-preserved-in_default c =
    let es = c.args.terms.now in
    let test = test_view c.args.test.now in
    let middle = c.loop-first.first + (c.loop-first.end - c.loop-first.first) / 2 in
    let low : c.loop-first.first ≤ middle = omega arith in
    let high : middle < c.loop-first.end = omega (arith, c.loop-first-test.true) in
    let at = term_at middle es c.requires.terms (omega (arith, high, c.loop-first.invariant.within)) in
    let value = one_value (λ v. scalar_view v.now) c.value_at.result c.in-Some.value (scalar_view at.0.value) (c.value_at.ensures at.0 at.1) c.in-Some.is in
    let fails : holds test false (scalar_view at.0.value) ≡ false = ap (holds test false) (sym value) ∙ (sym c.matches.ensures ∙ c.if-matches.false) in
    record {
      from = c.loop-first.invariant.from;
      order = low;
      within = omega (arith, high, c.loop-first.invariant.within);
      met = c.loop-first.invariant.met;
      unmet = λ i t g l. unmet_from test c.requires.prefix c.args.low.now c.requires.low es c.len-end.ensures.rising c.args.start c.requires.start middle at.0 at.1 (omega (arith, low, c.loop-first.invariant.from)) fails i t g l;
    }

pub loop-first-preserved : goal.loop-first-preserved
loop-first-preserved c =
    let es = c.args.terms.now in
    let middle = c.loop-first.first + (c.loop-first.end - c.loop-first.first) / 2 in
    let low : c.loop-first.first ≤ middle = omega arith in
    let high : middle < c.loop-first.end = omega (arith, c.loop-first-test.true) in
    let at = term_at middle es c.requires.terms (omega (arith, high, c.loop-first.invariant.within)) in
    no_value (λ v. scalar_view v.now) c.value_at.result (scalar_view at.0.value) (c.value_at.ensures at.0 at.1) c.in_default.is
