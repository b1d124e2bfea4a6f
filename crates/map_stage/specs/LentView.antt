-- A value of the program that is borrowed or shared.
use Rattle.map_stage.specs.declared.lent.Lent.{Lent}
use Rattle.map_stage.specs.declared.lent.Lent.TheVariants as l

abbrev pub lent_value : {X : Type 0} → Lent X → X
lent_value (l.Borrowed r) = r.now
lent_value (l.Shared s) = s
