use Rattle.std.proofs.Common.{false, ap, ◌∙◌}
use Rattle.std.specs.FinMap.{get}
use Rattle.std.specs.Option.{option_map_or}
use Rattle.spec_data.specs.Folding.{folded}
use Rattle.term_index.proofs.Counts.{count_known}
use Rattle.term_index.proofs.Found.{found_members}
use Rattle.term_index.proofs.column.Column.count.Goals as goal

pub returns : goal.returns
returns g c =
    let meets = g.C.ValueCondition.meets c.args.condition.now in
    count_known meets c.in_ok-count_meeting.field-0 c.self.inside.terms _ c.self.invariant.0
    (λ q. found_members meets c.self.inside.terms c.self.invariant.0 q ∙ ap (λ m. option_map_or meets (get m (folded q)) false) c.self.view_is) c.in_ok-count_meeting.ensures
