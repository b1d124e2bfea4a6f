-- The entries of several indexes with one reduce, together.
use Rattle.std.specs.Prelude.{◌≡◌, ℕ, List, [], ◌∷◌, Option, Some, flat_map, map, option_map}
use Rattle.std.specs.FinMap.{values}
use Rattle.index_tree.specs.Meaning.{Fields}
use Rattle.index_tree.specs.declared.reduce_query.ReduceQuery.{ReduceQuery}
use Rattle.spec_index.specs.World.{Version}
use Rattle.index_groups.specs.Groups.{Grouped}
use Rattle.index_groups.specs.Together.{AreBy}
use Rattle.index_groups.specs.Together as groups
use Rattle.index_version.specs.Entries.{all_entries}
use Rattle.index_version.specs.Reduced.{entries_of, reduce_of}

-- a reduce with entries: those of groups, and those of a version that has a reduce
abbrev pub with_entries : List Fields → ReduceQuery → ReduceQuery × List Fields
with_entries entries query = (query, entries)

abbrev pub in_groups : Grouped → ReduceQuery × List Fields
in_groups g = with_entries (values g.entries) g.query

abbrev pub in_version : Version → Option (ReduceQuery × List Fields)
in_version v = option_map (with_entries (entries_of v.definition v.table)) (reduce_of v.definition)

-- of all versions, one after another
abbrev pub entries_together : List Version → List (List ℕ × Fields)
entries_together versions = flat_map all_entries versions

-- the definition of each has this reduce
abbrev pub HaveReduce : ReduceQuery → List Version → Type 0
HaveReduce query [] = Unit {0}
HaveReduce query (v ∷ vs) = (reduce_of v.definition ≡ Some query) × HaveReduce query vs

-- if the versions have one reduce, the entries are in these groups by it
abbrev pub AreIn : List Grouped → List Version → Type 0
AreIn gs versions = (query : ReduceQuery) → HaveReduce query versions → AreBy query gs × (groups.all_entries gs ≡ map (λ e. e.1) (entries_together versions))
