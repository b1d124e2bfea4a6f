-- The values of several fields.
use Rattle.std.specs.Prelude.{◌≡◌, ℕ, List, [], ◌∷◌, Option, map}
use Rattle.std.specs.Coded.{Coded, coded_list, coded×}
use Rattle.std.specs.FinMap.{get, empty, code}
use Rattle.std.specs.Map.{lookup}
use Rattle.std.specs.Option.{option_and_then}
use Rattle.std.specs.Str.{bytes_eq}
use Rattle.spec_data.specs.Codes.{text_code, scalar_code}
use Rattle.spec_data.specs.Scalars as is
use Rattle.raven_value.specs.ScalarView.{scalar_view}
use Rattle.raven_value.specs.declared.scalar.Scalar.{Scalar}
use Rattle.raven_value.specs.declared.text.Text.{Text}
use Rattle.term_index.specs.Held.{Values, set_value}

-- of each field, by its name, the values by folded ids
abbrev pub Columns : Type 0
Columns = List (List ℕ × Values)

abbrev pub columns_code : Coded Columns
columns_code = coded_list (coded× text_code (code text_code scalar_code))

-- the fields of an entry
abbrev pub fields_of : List (Text × Scalar) → List (List ℕ × is.Scalar)
fields_of fields = map (λ f. (f.0, scalar_view f.1)) fields

-- the value of the field of that name, if there is one
abbrev pub value_of : List ℕ → List (List ℕ × is.Scalar) → Option is.Scalar
value_of name fields = lookup (bytes_eq name) fields

-- at this folded id each column has the value of these fields
abbrev pub HasFields : List ℕ → List (List ℕ × is.Scalar) → Columns → Type 0
HasFields q fields [] = Unit {0}
HasFields q fields (c ∷ cs) = (get c.1 q ≡ value_of c.0 fields) × HasFields q fields cs

-- with the values of these fields at a folded id, and no others
abbrev pub with_fields : List ℕ → List (List ℕ × is.Scalar) → Columns → Columns
with_fields q fields cs = map (λ c. (c.0, set_value q (value_of c.0 fields) c.1)) cs

-- the value of a field at a folded id
abbrev pub value_at : List ℕ → List ℕ → Columns → Option is.Scalar
value_at field q cs = option_and_then (λ m. get m q) (lookup (bytes_eq field) cs)

-- columns of these names without values
abbrev pub no_values : List (List ℕ) → Columns
no_values names = map (λ name. (name, empty)) names
