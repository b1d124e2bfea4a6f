use Rattle.std.proofs.Common.{◌∙◌}
use Rattle.map_stage.proofs.EqualLemmas.{same_items}
use Rattle.map_stage.proofs.operator.have_same_items.Goals as goal

pub returns : goal.returns
returns c = c.eq.ensures ∙ same_items c.as_slice.result.now c.as_slice-2.result.now c.args.left.now c.args.right.now c.as_slice.ensures c.as_slice-2.ensures
