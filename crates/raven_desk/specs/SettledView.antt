-- What became of the changes of a course.
use Rattle.spec_desk.specs.Stepped as is
use Rattle.raven_desk.specs.declared.settling.Settled.{Settled}
use Rattle.raven_desk.specs.declared.settling.Settled.TheVariants.{All, Stopped}

abbrev pub settled_view : Settled → is.Settled
settled_view All = is.All
settled_view (Stopped before after) = is.Stopped before after
