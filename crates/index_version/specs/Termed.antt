-- The terms of an index.
use Rattle.std.specs.Prelude.{◌≡◌, ℕ, List, [], Option, Some, None, is_some, map, if◌then◌else◌}
use Rattle.std.specs.FinMap.{FinMap, get}
use Rattle.spec_data.specs.Folding.{key_cmp}
use Rattle.index_tree.specs.Meaning.{Fields}
use Rattle.index_definition.specs.DefinitionView.{definition_view}
use Rattle.index_definition.specs.Reading.{fields}
use Rattle.index_definition.specs.declared.definition.DefBody.{DefBody}
use Rattle.spec_index.specs.Reduces.{reduce_of}
use Rattle.term_index.specs.Columns.{Columns, HasFields}
use Rattle.index_version.specs.Kept.{Given, outcome_fields}

-- the fields of the entry, none if there is no entry
abbrev pub given_fields : Option Given → Fields
given_fields None = []
given_fields (Some g) = outcome_fields g.mapped.outcome

-- under each folded id the terms have the values of the fields that are given for it
abbrev pub HaveTerms : FinMap key_cmp Given → Columns → Type 0
HaveTerms given terms = (q : List ℕ) → HasFields q (given_fields (get given q)) terms

abbrev pub names_of : Columns → List (List ℕ)
names_of terms = map (λ c. c.0) terms

-- the fields that have terms: those of the definition, or none if it has a reduce
abbrev pub term_names : DefBody → List (List ℕ)
term_names body = if is_some (reduce_of (definition_view body)) then [] else fields body

-- the terms are of these fields, and of what is given
pub record AreTermed (body : DefBody) (given : FinMap key_cmp Given) (terms : Columns) : Type 0 where
  pub names : names_of terms ≡ term_names body
  pub values : HaveTerms given terms
