-- The groups of an index whose definition has a reduce, and the rows that they give.
use Rattle.std.specs.Prelude.{◌≡◌, ◌≤◌, ◌^◌, ℕ, List, [], Option, Some, None, IfSome, length, map, option_map, if◌then◌else◌}
use Rattle.std.specs.BTreeMap.{is_at}
use Rattle.std.specs.FinMap.{FinMap, empty, get}
use Rattle.std.specs.List.{filter_map}
use Rattle.std.specs.Map.{lookup}
use Rattle.spec_data.specs.Folding.{key_cmp}
use Rattle.spec_data.specs.Rows.{Row}
use Rattle.spec_data.specs.Tables.{Table}
use Rattle.spec_store.specs.Store.{row_at}
use Rattle.index_tree.specs.Definitions.{Definition}
use Rattle.index_tree.specs.Mapper.{Mapper, is_mapped, mapper_of}
use Rattle.index_tree.specs.Meaning.{Fields}
use Rattle.index_tree.specs.declared.reduce_query.ReduceQuery.{ReduceQuery}
use Rattle.spec_index.specs.Mapping.{scratch}
use Rattle.spec_index.specs.World.{Version}
pub use Rattle.spec_index.specs.Reduces.{reduce_of}
use Rattle.spec_index.specs.Rows.{Key, group, reduced}
use Rattle.reference_track.specs.Sets.{id_cmp}
use Rattle.index_groups.specs.Groups.{Grouped}
use Rattle.index_version.specs.Kept.{Given, has_entry, outcome_fields}

-- THE ROWS OF A DEFINITION

-- the entries that its map gives for the documents of a table, in the order of their folded ids
abbrev pub entries_of : Definition → Table → List Fields
entries_of d T = map (λ e. e.1) (scratch (mapper_of d) T)

abbrev pub rows_by : Option ReduceQuery → List Fields → List Fields
rows_by None entries = []
rows_by (Some query) entries = reduced query entries

-- the rows that its reduce gives for these entries, none if it has no reduce
abbrev pub rows_of : Definition → Table → List Fields
rows_of d T = rows_by (reduce_of d) (entries_of d T)

-- WHAT IS IN GROUPS

abbrev pub fields_given : Given → Fields
fields_given g = outcome_fields g.mapped.outcome

-- groups of no entries
abbrev pub no_entries : ReduceQuery → Grouped
no_entries query = record { query = query; entries = empty }

-- what is given, if it has an entry
abbrev pub with_entry : Option Given → Option Given
with_entry None = None
with_entry (Some g) = if has_entry g.mapped.outcome then Some g else None

-- what is given for these ids and has an entry
abbrev pub entries_at : List (List ℕ × Given) → List (List ℕ) → List (List ℕ × Given)
entries_at given ids = filter_map (λ id. option_map (λ g. (id, g)) (with_entry (lookup (is_at (id_cmp id)) given))) ids

-- the entries in groups are those that are given
abbrev pub HasEntries : FinMap key_cmp Given → Grouped → Type 0
HasEntries given g = (q : List ℕ) → get g.entries q ≡ option_map fields_given (with_entry (get given q))

-- there are groups if there is a reduce, and they are of it and of the entries that are given
pub record AreReduced (query : Option ReduceQuery) (given : FinMap key_cmp Given) (groups : Option Grouped) : Type 0 where
  pub queries : option_map (λ g. g.query) groups ≡ query
  pub entries : IfSome groups (HasEntries given)

-- HOW MANY MERGES A BATCH MAKES

abbrev pub AreSmallBy : ℕ → Option ReduceQuery → List Fields → Type 0
AreSmallBy h None entries = Unit {0}
AreSmallBy h (Some query) entries = (key : Key) → length (group query.key key entries) ≤ 16 ^ h

-- no group of the version has more than 16^h entries
abbrev pub HasSmallGroups : ℕ → Version → Type 0
HasSmallGroups h v = AreSmallBy h (reduce_of v.definition) (entries_of v.definition v.table)

-- no row is of another collection than the document of its id in the table, if that is mapped
abbrev pub KeepCollections : Mapper → Table → List Row → Type 0
KeepCollections m T rows = (q : List ℕ) (r t : Row) → row_at q rows ≡ Some r → get T q ≡ Some t → is_mapped m t ≡ is_mapped m r
