-- Conditions on the fields of an entry.
use Rattle.std.specs.Prelude.{ℕ, List, Bool, true, false, not, ◌&&◌, ◌||◌, Option}
use Rattle.std.specs.Option.{option_map_or}
use Rattle.spec_data.specs.Scalars.{Scalar, Test, holds}
use Rattle.index_tree.specs.Meaning.{Fields, field_named}

-- a condition of a query with values in place of its parameters
pub data Condition : Type 0 where
  Or And : Condition → Condition → Condition
  Not : Condition → Condition
  -- inside it texts are compared by their bytes
  Exact : Condition → Condition
  Always : Condition
  -- the field of that name meets the test
  Has : (field : List ℕ) → (test : Test) → Condition

-- a field that an entry lacks meets no test
abbrev pub passes : Test → Bool → Option Scalar → Bool
passes test exact value = option_map_or (holds test exact) value false

abbrev pub meets : Condition → Bool → Fields → Bool
meets (Or a b) exact fields = meets a exact fields || meets b exact fields
meets (And a b) exact fields = meets a exact fields && meets b exact fields
meets (Not a) exact fields = not (meets a exact fields)
meets (Exact a) exact fields = meets a true fields
meets Always exact fields = true
meets (Has field test) exact fields = passes test exact (field_named field fields)
