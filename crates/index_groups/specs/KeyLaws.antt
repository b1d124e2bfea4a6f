-- The order of keys is total, and only equal keys are alike.
use Rattle.std.specs.Cmp.{IsTotalOrder}
use Rattle.std.specs.FinMap.{IsAntisymmetric}
use Rattle.spec_index.specs.Rows.{key_order}
use Rattle.spec_index.proofs.Ties.{key_order-total, key_ties}

pub keys_total : IsTotalOrder key_order
keys_total = key_order-total

pub keys_tie : IsAntisymmetric key_order
keys_tie = key_ties
