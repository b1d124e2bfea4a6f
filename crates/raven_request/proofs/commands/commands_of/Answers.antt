use Rattle.std.proofs.Common.{◌≤◌, codes, option_map, subst}
use Rattle.spec_data.specs.Data.{depth, entries_of}
use Rattle.raven_value.specs.View.{data_of}
use Rattle.raven_value.specs.declared.value.Value.{Value}
use Rattle.raven_request.proofs.Depths.{member-shallow}
use Rattle.raven_request.proofs.commands.commands_of.Goals as goal

pub commands_in-requires : goal.commands_in-requires
commands_in-requires c =
    member-shallow (codes "Commands") (entries_of c.in-Map.members) (option_map (λ (v : Value). data_of v) c.in_ok-taken-in-Map.field-0) c.in_ok-taken-in-Map.ensures.value
    (subst (λ (v : Value). depth (data_of v) ≤ 100) c.in-Map.is c.requires)
