use Rattle.std.proofs.Common.{◌≡◌, Some, None, sym, subst, ◌∙◌}
use Rattle.std.specs.Prelude.{IfSome, option_copied}
use Rattle.spec_data.specs.Faults.{replacement_of}
use Rattle.spec_index.specs.World.{NumbersRise, serving}
use Rattle.side_by_side.specs.Naming.{AreBeside}
use Rattle.side_by_side.proofs.Names.{found-beside}
use Rattle.side_by_side.proofs.slots.Slots.beside.Goals as goal

pub returns-clause-alone : goal.returns-clause-alone
returns-clause-alone c =
    let slots = c.args.self.now.slots in
    let name = c.args.slot.now.name in
    let up : NumbersRise 0 slots = subst (λ xs. NumbersRise 0 xs) c.list.ensures.slots c.list.ensures.rising in
    let found : option_copied c.serving_in.result ≡ serving slots (replacement_of name) =
    c.serving_in.ensures ∙ (λ i. serving (c.list.ensures.slots i) ((c.as_str.ensures.value ∙ c.in_ok-name.ensures) i)) in
    elim c.serving_in.result as (λ o. option_copied o ≡ serving slots (replacement_of name) → IfSome o (λ r. AreBeside r.now.number name slots)) [
      | Some r ↦ λ e. found-beside slots name r.now up (sym e)
      | None ↦ λ e. tt
    ] found
