use Rattle.std.proofs.Common.{Some, option_map, sym, ap, ◌∙◌}
use Rattle.raven_value.specs.ScalarView.{scalar_view}
use Rattle.term_index.proofs.Changes.{same_scalar}
use Rattle.term_index.proofs.column.are_same.Goals as goal

pub returns-in-Some-Some : goal.returns-in-Some-Some
returns-in-Some-Some c = λ h.
    ap (λ o. option_map (λ v. scalar_view v.now) o) c.in-Some-Some.is-0
    ∙ (ap (λ s. Some s) (same_scalar (scalar_view c.in-Some-Some.a.now) (scalar_view c.in-Some-Some.b.now) (sym c.eq.ensures ∙ h))
    ∙ sym (ap (λ o. option_map (λ v. scalar_view v.now) o) c.in-Some-Some.is-1))
