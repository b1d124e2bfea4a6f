-- Conditions whose tests are all on one field, as conditions on the value of that field.
use Rattle.std.specs.Prelude.{ℕ, List, [], ◌∷◌, ◌++◌, Bool, true, not, ◌&&◌, ◌||◌, if◌then◌else◌, Option, map}
use Rattle.std.specs.Borrow.{Bor}
use Rattle.std.specs.Str.{bytes_eq}
use Rattle.spec_data.specs.Folding.{folded}
use Rattle.spec_data.specs.Scalars.{Scalar, Test}
use Rattle.index_tree.specs.Meaning.{Fields}
use Rattle.raven_value.specs.ScalarView.{test_view}
use Rattle.raven_value.specs.declared.matching.Test as declared
use Rattle.spec_query.specs.Condition.{Condition, Or, And, Not, Exact, Always, Has, passes}
use Rattle.spec_query.specs.Sorting.{value_named}

-- all tests of the condition are on that field
abbrev pub is_on : List ℕ → Condition → Bool
is_on field (Or a b) = is_on field a && is_on field b
is_on field (And a b) = is_on field a && is_on field b
is_on field (Not a) = is_on field a
is_on field (Exact a) = is_on field a
is_on field Always = true
is_on field (Has name test) = bytes_eq field name

-- the tests of the condition, each with whether it compares texts by their bytes
abbrev pub tests_of : Condition → Bool → List (Test × Bool)
tests_of (Or a b) exact = tests_of a exact ++ tests_of b exact
tests_of (And a b) exact = tests_of a exact ++ tests_of b exact
tests_of (Not a) exact = tests_of a exact
tests_of (Exact a) exact = tests_of a true
tests_of Always exact = []
tests_of (Has name test) exact = (test, exact) ∷ []

-- tests that are lent
abbrev pub lent_tests : List (Bor declared.Test × Bool) → List (Test × Bool)
lent_tests tests = map (λ t. (test_view t.0.now, t.1)) tests

-- whether the condition is met if the field of each of its tests has this value, or is missing
abbrev pub met_by : Condition → Bool → Option Scalar → Bool
met_by (Or a b) exact value = met_by a exact value || met_by b exact value
met_by (And a b) exact value = met_by a exact value && met_by b exact value
met_by (Not a) exact value = not (met_by a exact value)
met_by (Exact a) exact value = met_by a true value
met_by Always exact value = true
met_by (Has name test) exact value = passes test exact value

-- the answer is another one than without the field
abbrev pub differs : (missing answer : Bool) → Bool
differs missing answer = if missing then not answer else answer

-- the folded id of an entry with its value in the field, which is null if the entry lacks it
abbrev pub with_value : List ℕ → List ℕ × Fields → List ℕ × Scalar
with_value field e = (folded e.0, value_named field e.1)
