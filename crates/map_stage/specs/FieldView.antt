-- A field of an entry of the program, and what it is.
use Rattle.std.specs.Prelude.{ℕ, List}
use Rattle.spec_data.specs.Scalars as is
use Rattle.raven_value.specs.declared.scalar.Scalar.{Scalar}
use Rattle.raven_value.specs.declared.text.Text.{Text}
use Rattle.raven_value.specs.ScalarView.{scalar_view}

abbrev pub field_view : Text × Scalar → List ℕ × is.Scalar
field_view f = (f.0, scalar_view f.1)
