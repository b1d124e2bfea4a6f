use Rattle.std.proofs.Common.{ap, sym, ◌∙◌, arith}
use Rattle.raven_value.specs.ScalarView.{scalar_view}
use Rattle.term_index.proofs.Changing.{no_value, one_value, term_at}
use Rattle.term_index.proofs.Counted.{as_first}
use Rattle.term_index.proofs.counting.is_met_in_run.Goals as goal

pub returns-in-Some : goal.returns-in-Some
returns-in-Some g c = λ i t get l m.
    let es = c.args.terms.now in
    let meets = g.C.ValueCondition.meets c.args.condition.now in
    let at = term_at c.args.from es c.requires.terms (omega (arith, c.if-from-to.false, c.requires.within)) in
    let value = one_value (λ v. scalar_view v.now) c.value_at.result c.in-Some.value (scalar_view at.0.value) (c.value_at.ensures at.0 at.1) c.in-Some.is in
    as_first meets c.args.from c.args.to es at.0 c.requires.terms at.1 c.requires.within c.requires.run i t get l m ∙ (ap meets (sym value) ∙ sym c.is_met.ensures)

pub returns-in-None : goal.returns-in-None
returns-in-None g c = λ i t get l m.
    let es = c.args.terms.now in
    let at = term_at c.args.from es c.requires.terms (omega (arith, c.if-from-to.false, c.requires.within)) in
    no_value (λ v. scalar_view v.now) c.value_at.result (scalar_view at.0.value) (c.value_at.ensures at.0 at.1) c.in-None.is
