-- The bytes of a text.
use Rattle.std.specs.Prelude.{ℕ, List}
use Rattle.std.specs.Arc.{arc_str_bytes}
use Rattle.raven_value.specs.declared.text.Held.{Held}
use Rattle.raven_value.specs.declared.text.Held.TheVariants.{Short, Long}

abbrev pub bytes_of : Held → List ℕ
bytes_of (Short text) = text
bytes_of (Long text) = arc_str_bytes text
