-- Memory ran out while the arguments were read.
use Rattle.std.proofs.Common.{◌≡◌, Option, Some, None, inr}
use Rattle.raven_console.specs.Ends.{Outlets, ServesAsAsked}
use Rattle.raven_console.specs.Invocations.{Http, Invocation, Measure, Run, Serve}
use Rattle.raven_console.specs.declared.status.Status.{Status}
use Rattle.raven_console.specs.declared.status.Status.TheVariants.{NoMemory}

-- so the keeper and the doors are as they were, whatever was asked
pub lost : (asked : Option Invocation) (status : Status) (o : Outlets) → status ≡ NoMemory → o.keeper_left ≡ Some o.keeper → o.doors_left ≡ o.doors → ServesAsAsked asked status o
lost None status o s k d = d
lost (Some (Run options)) status o s k d = d
lost (Some (Measure options)) status o s k d = d
lost (Some (Http options)) status o s k d = d
lost (Some (Serve options)) status o s k d = inr (s, record { keeper = k; doors = d })
