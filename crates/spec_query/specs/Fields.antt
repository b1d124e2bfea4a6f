-- The fields that a query names, and which of them is refused.
use Rattle.std.specs.Prelude.{ℕ, List, [], ◌∷◌, ◌++◌, Bool, true, false, not, ◌||◌, if◌then◌else◌, Option, None, unwrap_or, option_map, filter, find, map}
use Rattle.std.specs.List.{list_any}
use Rattle.std.specs.Str.{bytes_eq}
use Rattle.std.specs.Cmp.Lexicographic.{pointwise}
use Rattle.spec_data.specs.Members.{Path}
use Rattle.spec_query.specs.Query.{Query, Field, At, Count, Sum, Cond, is_of_index}
use Rattle.spec_query.specs.Results.{field_name}

-- IN THE ORDER OF THE TEXT

abbrev pub cond_fields : Cond → List Field
cond_fields (Cond.Or a b) = cond_fields a ++ cond_fields b
cond_fields (Cond.And a b) = cond_fields a ++ cond_fields b
cond_fields (Cond.Not a) = cond_fields a
cond_fields (Cond.Exact a) = cond_fields a
cond_fields Cond.True = []
cond_fields (Cond.Starts f v) = f ∷ []
cond_fields (Cond.Exists f) = f ∷ []
cond_fields (Cond.Compare f op v) = f ∷ []
cond_fields (Cond.Between f v w) = f ∷ []
cond_fields (Cond.In f vs) = f ∷ []

-- those of the condition and of the order
abbrev pub asked_fields : Query → List Field
asked_fields q = unwrap_or (option_map cond_fields q.cond) [] ++ map (λ s. s.field) q.sorts

abbrev pub selected_fields : Query → List Field
selected_fields q = map (λ c. c.field) q.columns

-- GROUPS

-- a count or a sum
abbrev pub is_of_group : Field → Bool
is_of_group (At path) = false
is_of_group Count = true
is_of_group (Sum path) = true

abbrev pub has_path : List Path → Path → Bool
has_path paths path = list_any (pointwise bytes_eq path) paths

-- without groups a count or a sum is refused, and with groups a path that is none of them
abbrev pub is_ungrouped : List Path → Field → Bool
is_ungrouped [] field = is_of_group field
is_ungrouped (g ∷ groups) (At path) = not (has_path (g ∷ groups) path)
is_ungrouped (g ∷ groups) Count = false
is_ungrouped (g ∷ groups) (Sum path) = false

-- the first field of a query on a collection that needs other groups
abbrev pub not_grouped : Query → Option Field
not_grouped q = if is_of_index q then None else find (is_ungrouped q.groups) (asked_fields q ++ selected_fields q)

-- DEFINITIONS

-- the names of the fields of an index, and whether it has a reduce
pub record Offered : Type 0 where
  pub names : List (List ℕ)
  pub reduced : Bool

abbrev pub is_offered : Offered → Field → Bool
is_offered d field = list_any (bytes_eq (field_name field)) d.names

-- without a reduce a path of `select` is looked up in the document, and so need not be a field
abbrev pub is_to_be_offered : Offered → Field → Bool
is_to_be_offered d field = d.reduced || is_of_group field

-- the first field of a query on an index that its definition has not
abbrev pub not_offered : Offered → Query → Option Field
not_offered d q =
    if is_of_index q then find (λ field. not (is_offered d field)) (asked_fields q ++ filter (is_to_be_offered d) (selected_fields q))
    else None
