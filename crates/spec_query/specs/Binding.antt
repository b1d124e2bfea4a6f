-- How a query becomes a plan, and why it is refused.
use Rattle.std.specs.Prelude.{ℕ, ℤ, pos, List, [], ◌∷◌, ◌++◌, Bool, not, ◌&&◌, if◌then◌else◌, Option, Some, None, unwrap_or, option_map, Result, Ok, Err, codes, map, int_lt, nat_abs}
use Rattle.std.specs.Option.{option_or}
use Rattle.spec_data.specs.Members.{Path}
use Rattle.index_tree.specs.Mapper.{joined}
use Rattle.spec_query.specs.Fields.{Offered, not_grouped, not_offered}
use Rattle.spec_query.specs.Parameters.{parameter_refused, bound_where}
use Rattle.spec_query.specs.Plan.{Plan, Selected}
use Rattle.spec_query.specs.Printing.{field_text}
use Rattle.spec_query.specs.Query.{Ask, Field, At, Count, Sum, Sort, Column}
use Rattle.spec_query.specs.Results.{field_name}
use Rattle.spec_query.specs.Sorting.{SortKey}

pub data PlanRefusal : Type 0 where
  -- the parameter of that name has no value that fits; or `startsWith`, if its value is no text
  NoParameter : (name : List ℕ) → PlanRefusal
  -- the field, as printed, needs groups, or is none of them
  NotGrouped : (name : List ℕ) → PlanRefusal
  BadPage : PlanRefusal
  -- the definition has no such field, as printed
  NoField : (name : List ℕ) → PlanRefusal

-- PAGES

abbrev pub max_page : ℤ
max_page = pos 2147483647

abbrev pub is_in_page : ℤ → Bool
is_in_page n = not (int_lt n (pos 0)) && not (int_lt max_page n)

abbrev pub page_refused : Ask → Option PlanRefusal
page_refused ask = if is_in_page ask.start && is_in_page (unwrap_or ask.size (pos 0)) then None else Some BadPage

-- COLUMNS

-- the name of a column to which the query gives none
abbrev pub column_name : Field → List ℕ
column_name (At path) = joined path
column_name Count = codes "Count"
column_name (Sum path) = joined path

abbrev pub selected_column : Column → Selected
selected_column c = record { name = unwrap_or c.name (column_name c.field); field = c.field }

abbrev pub plain_column : Field → Selected
plain_column field = record { name = column_name field; field = field }

-- with `group by` and without `select`, the groups and their counts
abbrev pub columns_of : List Path → List Column → List Selected
columns_of (g ∷ groups) [] = map (λ path. plain_column (At path)) (g ∷ groups) ++ plain_column Count ∷ []
columns_of groups columns = map selected_column columns

-- PLANS

abbrev pub key_of : Sort → SortKey
key_of s = record { field = field_name s.field; long = s.long; desc = s.desc }

abbrev pub plan_of : Ask → Plan
plan_of ask = record {
  condition = bound_where ask.parameters ask.query.cond;
  order = map key_of ask.query.sorts;
  columns = columns_of ask.query.groups ask.query.columns;
  includes = ask.query.includes;
  start = nat_abs ask.start;
  size = option_map nat_abs ask.size;
}

-- the refusal that needs no definition: the first of these, in this order
abbrev pub check : Ask → Option PlanRefusal
check ask =
    option_or (option_map NoParameter (parameter_refused ask.parameters ask.query.cond)) (
    option_or (option_map (λ field. NotGrouped (field_text field)) (not_grouped ask.query)) (page_refused ask))

abbrev pub refusal_of : Ask → Offered → Option PlanRefusal
refusal_of ask d = option_or (check ask) (option_map (λ field. NoField (field_text field)) (not_offered d ask.query))

abbrev pub unless_refused : {A E : Type 0} → A → Option E → Result A E
unless_refused a None = Ok a
unless_refused a (Some e) = Err e

-- the plan of a query for an index that offers these fields
abbrev pub bind : Ask → Offered → Result Plan PlanRefusal
bind ask d = unless_refused (plan_of ask) (refusal_of ask d)
