use Rattle.std.proofs.Common.{◌∙◌, ap}
use Rattle.spec_data.specs.Faults.{fault_of}
use Rattle.spec_data.specs.Limits.{max_name}
use Rattle.spec_index.specs.Optimiser.{first_free}
use Rattle.query_optimizer.proofs.Clean.{faultless-auto}
use Rattle.query_optimizer.proofs.naming.numbered_name.Goals as goal

pub memory_alone-requires : goal.memory_alone-requires
memory_alone-requires c =
    c.in-Err.ensures.refused
    ∙ ap (fault_of max_name) (c.as_str.ensures.value ∙ c.in_ok-free.ensures ∙ ap (λ name. first_free name c.args.slots.now) c.in_ok-auto_number.ensures)
    ∙ faultless-auto c.args.number c.args.slots.now c.ranges.number.fits c.requires
