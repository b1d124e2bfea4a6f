use Rattle.std.proofs.Common.{ap, ◌∙◌}
use Rattle.std.specs.FinMap.{len}
use Rattle.term_index.proofs.Lengths.{len_held}
use Rattle.term_index.proofs.column.Column.len.Goals as goal

pub returns : goal.returns
returns c = c.len.ensures.count ∙ (len_held c.self.inside.terms c.self.invariant.0 c.self.invariant.1 ∙ ap len c.self.view_is)
