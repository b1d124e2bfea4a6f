use Rattle.std.proofs.Common.{nat_eq, length, sym, ap, ◌∙◌}
use Rattle.raven_value.specs.ScalarView.{test_view}
use Rattle.term_index.specs.Marks.{Mark}
use Rattle.term_index.proofs.Changing.{among_more, fewer_first, high_side, is_last, low_side, span_steps, within_more}
use Rattle.term_index.proofs.steps.add_span.Goals as goal

pub add_edge-requires-clause-edge : goal.add_edge-requires-clause-edge
add_edge-requires-clause-edge c = ap (λ (m : Mark). nat_eq m.side 1) c.in_ok-low.ensures ∙ low_side (test_view c.args.test.now) c.args.exact

pub add_edge-requires-2-clause-edge : goal.add_edge-requires-2-clause-edge
add_edge-requires-2-clause-edge c = ap (λ (m : Mark). nat_eq m.side 1) c.in_ok-high.ensures ∙ high_side (test_view c.args.test.now) c.args.exact

pub returns-clause-steps : goal.returns-clause-steps
returns-clause-steps c = λ known.
    let test = test_view c.args.test.now in
    let es = c.args.terms.now in
    span_steps test c.args.exact c.in_ok-low.low c.in_ok-high.high c.in_ok-low.ensures c.in_ok-high.ensures (sym c.is_span.ensures ∙ c.if-not-is_span.false) es c.add_edge-2.new.places.items c.len-terms.ensures.rising
    (among_more _ c.add_edge.new.places.items _ c.in_ok-add_edge-2.ensures _ (is_last _ c.args.places.now.items _ c.in_ok-add_edge.ensures))
    (is_last _ c.add_edge.new.places.items _ c.in_ok-add_edge-2.ensures)

pub returns-clause-within : goal.returns-clause-within
returns-clause-within c = λ within.
    let es = c.args.terms.now in
    within_more (length es) _ c.add_edge.new.places.items _ c.in_ok-add_edge-2.ensures (fewer_first c.in_ok-high.high es)
    (within_more (length es) _ c.args.places.now.items _ c.in_ok-add_edge.ensures (fewer_first c.in_ok-low.low es) within)
