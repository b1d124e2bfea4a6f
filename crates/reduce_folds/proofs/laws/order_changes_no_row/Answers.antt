use Rattle.spec_index.proofs.Reordering.{reduced_reordered}
use Rattle.reduce_folds.proofs.laws.order_changes_no_row.Goals as goal

pub returns : goal.returns
returns c = reduced_reordered
