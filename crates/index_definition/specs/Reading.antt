-- What is known of a definition.
use Rattle.std.specs.Prelude.{◌≡◌, ℕ, List, [], ◌∷◌, ◌++◌, Option, Some, None, map}
use Rattle.spec_data.specs.Members.{Path}
use Rattle.spec_data.specs.Data.{null}
use Rattle.spec_data.specs.Rising.{Pairs, put}
use Rattle.index_tree.specs.Scope as meaning
use Rattle.index_tree.specs.Mapper.{count_name, joined, sum_name}
use Rattle.index_definition.specs.declared.definition.DefBody.{DefBody}
use Rattle.index_definition.specs.declared.definition.DefBody.TheVariants.{Static, Auto}

-- ---- the same definition, whatever its name and its texts

abbrev pub Same : DefBody → DefBody → Type 0
Same (Static a reduce text reduce_text) (Static b other other_text other_reduce_text) = (a ≡ b) × (reduce ≡ other)
Same (Auto shape) (Auto other) = shape ≡ other
Same _ _ = ⊥

-- ---- the fields of its entries

-- those of an automatic index: with groups these, the count and the sums
abbrev pub shape_names : Option (List Path) → List Path → List (List ℕ)
shape_names None fields = map joined fields
shape_names (Some groups) sums = map joined groups ++ count_name ∷ map sum_name sums

abbrev pub names : DefBody → List (List ℕ)
names (Static query reduce text reduce_text) = meaning.fields_of query
names (Auto shape) = shape_names shape.groups shape.fields

-- the names as those of the members of an object, which rise by their bytes, and each of which is there once
abbrev pub put_all : List (List ℕ) → Pairs → Pairs
put_all [] found = found
put_all (name ∷ more) found = put_all more (put name null found)

abbrev pub in_order : List (List ℕ) → List (List ℕ)
in_order all = map (λ m. m.0) (put_all all [])

abbrev pub fields : DefBody → List (List ℕ)
fields body = in_order (names body)
