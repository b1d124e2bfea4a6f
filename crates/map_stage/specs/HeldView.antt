-- Values of the program while a document is mapped, and what they are.
use Rattle.std.specs.Cow.{cow_value}
use Rattle.spec_data.specs.Data.{Data, null, flag, num, text, array, object, items_of, entries_of}
use Rattle.map_stage.specs.declared.held.Held.{Held}
use Rattle.map_stage.specs.declared.held.Held.TheVariants as h
use Rattle.map_stage.specs.LentView.{lent_value}

abbrev pub held_of : Held → Data
held_of h.Null = null
held_of (h.Flag b) = flag b
held_of (h.Num n) = num n
held_of (h.Text s) = text (cow_value s)
held_of (h.List ds) = array (items_of (lent_value ds))
held_of (h.Map ms) = object (entries_of (lent_value ms))
