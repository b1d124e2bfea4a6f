-- A `Choice` of the program, and what it is.
use Rattle.std.specs.Prelude.{◌≡◌}
use Rattle.spec_store.specs.Store.{Store}
use Rattle.spec_index.specs.Optimiser as is
use Rattle.spec_index.specs.World.{Slot}
use Rattle.index_definition.specs.ShapeView.{shape_view}
use Rattle.query_optimizer.specs.declared.choice.Candidate.{Candidate}
use Rattle.query_optimizer.specs.declared.choice.Choice.{Choice}
use Rattle.query_optimizer.specs.declared.choice.Choice.TheVariants.{Use, Make}

abbrev pub choice_view : Choice → is.Choice
choice_view (Use slot) = is.Use slot.now
choice_view (Make shape) = is.Make (shape_view shape)

abbrev pub slot_of : Candidate → Slot
slot_of c = c.slot.now

-- it is known whether the index is fresh on this store
abbrev pub IsTested : Store → Candidate → Type 0
IsTested S c = c.fresh ≡ is.is_fresh S c.slot.now
