use Rattle.std.proofs.Common.{get_or, ◌∙◌, arith}
use Rattle.term_index.proofs.Counted.{between_places, count_all, count_few, is_there, more_runs}
use Rattle.term_index.proofs.counting.count_in_runs.Goals as goal

pub count_in_run-count-requires-clause-run : goal.count_in_run-count-requires-clause-run
count_in_run-count-requires-clause-run g c = λ i t u p q l m.
    let places = c.args.places.now in
    let next = c.loop-place.place-index in
    c.requires.steps i t u p q (between_places places next c.loop-place.from (get_or places next 0) i c.loop-place.invariant.below (λ j past within. c.requires.sorted next j 0 past within) l m)

pub count_in_run-count-requires-clause-within : goal.count_in_run-count-requires-clause-within
count_in_run-count-requires-clause-within g c =
    let places = c.args.places.now in
    let next = c.loop-place.place-index in
    c.requires.within (get_or places next 0) (is_there next places c.loop-place-test.true)

pub overflow_add-count : goal.overflow_add-count
overflow_add-count g c =
    let places = c.args.places.now in
    let next = c.loop-place.place-index in
    let meets = g.C.ValueCondition.meets c.args.condition.now in
    let es = c.args.terms.now in
    let to = get_or places next 0 in
    let sum = more_runs meets c.loop-place.from to c.loop-place.count c.count_in_run-count.result es (c.loop-place.invariant.above next (omega arith) c.loop-place-test.true) c.loop-place.invariant.count c.count_in_run-count.ensures in
    omega (arith, sum, count_few meets to es, c.len-len.ensures.count, c.len-len.type_inv)

pub loop-place-preserved : goal.loop-place-preserved
loop-place-preserved g c =
    let places = c.args.places.now in
    let next = c.loop-place.place-index in
    let meets = g.C.ValueCondition.meets c.args.condition.now in
    let es = c.args.terms.now in
    let to = get_or places next 0 in
    let on = c.loop-place.invariant.above next (omega arith) c.loop-place-test.true in
    record {
      count = more_runs meets c.loop-place.from to c.loop-place.count c.count_in_run-count.result es on c.loop-place.invariant.count c.count_in_run-count.ensures;
      within = c.requires.within to (is_there next places c.loop-place-test.true);
      below = λ j l. c.requires.sorted j next 0 (omega (arith, l)) c.loop-place-test.true;
      above = λ j l m. c.requires.sorted next j 0 (omega (arith, l)) m;
    }

pub count_in_run-requires-clause-run : goal.count_in_run-requires-clause-run
count_in_run-requires-clause-run g c = λ i t u p q l m.
    let next = c.loop-place.place-index in
    c.requires.steps i t u p q (between_places c.args.places.now next c.loop-place.from c.len-len.result i c.loop-place.invariant.below (λ j past within. absurd (omega (arith, past, within, c.loop-place-test.false))) l m)

pub overflow_add-result : goal.overflow_add-result
overflow_add-result g c =
    let meets = g.C.ValueCondition.meets c.args.condition.now in
    let es = c.args.terms.now in
    let sum = more_runs meets c.loop-place.from c.len-len.result c.loop-place.count c.count_in_run.result es (omega (arith, c.loop-place.invariant.within, c.len-len.ensures.count)) c.loop-place.invariant.count c.count_in_run.ensures in
    omega (arith, sum, count_few meets c.len-len.result es, c.len-len.ensures.count, c.len-len.type_inv)

pub returns : goal.returns
returns g c =
    let meets = g.C.ValueCondition.meets c.args.condition.now in
    let es = c.args.terms.now in
    more_runs meets c.loop-place.from c.len-len.result c.loop-place.count c.count_in_run.result es (omega (arith, c.loop-place.invariant.within, c.len-len.ensures.count)) c.loop-place.invariant.count c.count_in_run.ensures
    ∙ count_all meets c.len-len.result es c.len-len.ensures.count
