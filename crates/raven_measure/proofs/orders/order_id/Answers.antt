use Rattle.std.proofs.Common.{◌∙◌, ap}
use Rattle.spec_data.specs.Faults.{fault_of}
use Rattle.spec_data.specs.Limits.{max_id}
use Rattle.raven_measure.proofs.IdLemmas.{faultless-order_id}
use Rattle.raven_measure.proofs.orders.order_id.Goals as goal

pub memory_alone-requires : goal.memory_alone-requires
memory_alone-requires c =
    c.in-Err.ensures.refused
    ∙ ap (fault_of max_id) (c.as_str.ensures.value ∙ c.in_ok-text.ensures)
    ∙ faultless-order_id c.args.number c.ranges.number.fits
