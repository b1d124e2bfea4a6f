use Rattle.std.proofs.Common.{◌≡◌, ℕ, List, ◌∙◌, subst, sym}
use Rattle.spec_index.specs.World.{replaced_name}
use Rattle.index_definition.specs.DefinitionView.{definition_view}
use Rattle.side_by_side.specs.Naming.{IsNamedAs}
use Rattle.raven_world.proofs.Names.{name-own, whole-fit}
use Rattle.raven_world.proofs.naming.read_name.Goals as goal

pub whole_name-requires : goal.whole_name-requires
whole_name-requires c = whole-fit (definition_view c.args.body.now) c.args.text.now c.own_part.result.now c.in-Some.own c.own_part.ensures (sym c.in-Some.is ∙ c.in_ok-own.ensures)

pub returns-clause-own : goal.returns-clause-own
returns-clause-own c =
    let both = subst (λ (t : List ℕ). (c.in-Some.own ≡ replaced_name t) × IsNamedAs t c.in-Some.own) (sym c.in_ok-name.ensures)
    (name-own (definition_view c.args.body.now) c.args.text.now c.own_part.result.now c.in-Some.own c.own_part.ensures (sym c.in-Some.is ∙ c.in_ok-own.ensures)) in
    record { own = both.0; named = both.1 }
