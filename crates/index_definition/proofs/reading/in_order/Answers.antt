use Rattle.std.proofs.Common.{◌∙◌, sym, ap, map, List, ℕ}
use Rattle.spec_data.specs.Data.{Data}
use Rattle.index_definition.proofs.Adding.{first_names}
use Rattle.index_definition.proofs.reading.in_order.Goals as goal

pub returns : goal.returns
returns c =
    c.in_ok-sorted.ensures ∙ sym (first_names c.as_slice.result.now)
    ∙ ap (λ (ps : List (List ℕ × Data)). map (λ m. m.0) ps) (c.as_slice.ensures.members ∙ c.in_ok-members.ensures)
