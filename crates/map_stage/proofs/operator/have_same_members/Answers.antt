use Rattle.std.proofs.Common.{◌∙◌}
use Rattle.map_stage.proofs.EqualLemmas.{same_members}
use Rattle.map_stage.proofs.operator.have_same_members.Goals as goal

pub returns : goal.returns
returns c = c.eq.ensures ∙ same_members c.as_slice.result.now c.as_slice-2.result.now c.args.left.now c.args.right.now c.as_slice.ensures.members c.as_slice-2.ensures.members
