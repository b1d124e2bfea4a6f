use Rattle.std.proofs.Common.{length, ap, ◌∙◌}
use Rattle.std.specs.FinMap.{values}
use Rattle.spec_index.specs.Rows.{reduced}
use Rattle.index_groups.specs.Groups.{Grouped}
use Rattle.index_groups.proofs.Rows.{count_is}
use Rattle.index_groups.proofs.groups.IndexGroups.len.Goals as goal

pub returns : goal.returns
returns g c =
    c.len.ensures.count
    ∙ count_is c.self.inside.query g.E.HasFields.fields c.self.inside.groups.fold c.self.inside.groups.trees c.self.invariant.1 c.len.ensures.rising c.self.inside.groups.fold c.len.ensures.sound
    ∙ ap (λ (x : Grouped). length (reduced x.query (values x.entries))) c.self.view_is
