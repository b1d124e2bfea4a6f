use Rattle.std.proofs.Common.{arith}
use Rattle.std.proofs.lemmas.List.{length-map}
use Rattle.raven_value.proofs.value.Members.remove.Goals as goal

pub take_out-requires : goal.take_out-requires
take_out-requires c = grind (arith, c.in_ok-i.ensures.within, c.deref.ensures.value, length-map)
