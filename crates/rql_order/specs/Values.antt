-- What the keys of an order compare of an entry.
use Rattle.std.specs.Prelude.{ℕ, ℤ, List, Bool, Option, if◌then◌else◌, map}
use Rattle.std.specs.Borrow.{Bor}
use Rattle.spec_data.specs.Scalars.{Scalar}
use Rattle.index_tree.specs.Meaning.{Fields}
use Rattle.spec_query.specs.Sorting.{SortKey, number_form, text_form, value_named}
use Rattle.map_stage.specs.declared.fields.Entry.{Entry}
use Rattle.rql_order.specs.declared.value.SortValue.{SortValue}
use Rattle.rql_order.specs.declared.value.SortValue.TheVariants.{Number, Text, NumberDown, TextDown}

abbrev pub by_number : Option ℤ → Bool → SortValue
by_number n desc = if desc then NumberDown (record { 0 = n }) else Number n

abbrev pub by_text : Option (List ℕ) → Bool → SortValue
by_text t desc = if desc then TextDown (record { 0 = t }) else Text t

abbrev pub sort_value : SortKey → Scalar → SortValue
sort_value k v = if k.long then by_number (number_form v) k.desc else by_text (text_form v) k.desc

-- what each key compares
abbrev pub sort_values : List SortKey → Fields → List SortValue
sort_values keys fields = map (λ k. sort_value k (value_named k.field fields)) keys

-- a row with what the keys compare of it
abbrev pub with_values : {K : Type 0} → List SortKey → K × Bor Entry → List SortValue × (K × Bor Entry)
with_values keys row = (sort_values keys row.1.now, row)
