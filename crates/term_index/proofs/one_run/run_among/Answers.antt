use Rattle.std.proofs.Common.{get_or, arith}
use Rattle.term_index.proofs.Counted.{between_places, is_there}
use Rattle.term_index.proofs.one_run.run_among.Goals as goal

pub with_terms-requires-clause-run : goal.with_terms-requires-clause-run
with_terms-requires-clause-run g c = λ i t u p q l m.
    let places = c.args.places.now in
    let next = c.loop-place.place-index in
    c.requires.steps i t u p q (between_places places next c.loop-place.from (get_or places next 0) i c.loop-place.invariant.below (λ j past within. c.requires.sorted next j 0 past within) l m)

pub with_terms-requires-clause-within : goal.with_terms-requires-clause-within
with_terms-requires-clause-within g c =
    let places = c.args.places.now in
    let next = c.loop-place.place-index in
    c.requires.within (get_or places next 0) (is_there next places c.loop-place-test.true)

pub loop-place-preserved : goal.loop-place-preserved
loop-place-preserved g c =
    let places = c.args.places.now in
    let next = c.loop-place.place-index in
    record {
      run = c.in_ok-run.ensures;
      within = c.requires.within (get_or places next 0) (is_there next places c.loop-place-test.true);
      below = λ j l. c.requires.sorted j next 0 (omega (arith, l)) c.loop-place-test.true;
      above = λ j l m. c.requires.sorted next j 0 (omega (arith, l)) m;
    }

pub with_terms-requires-2-clause-run : goal.with_terms-requires-2-clause-run
with_terms-requires-2-clause-run g c = λ i t u p q l m.
    let next = c.loop-place.place-index in
    c.requires.steps i t u p q (between_places c.args.places.now next c.loop-place.from c.len-len.result i c.loop-place.invariant.below (λ j past within. absurd (omega (arith, past, within, c.loop-place-test.false))) l m)
