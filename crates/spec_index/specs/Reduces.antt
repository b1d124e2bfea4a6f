-- Whether a definition groups its entries, and how.
use Rattle.std.specs.Prelude.{ℕ, List, ◌∷◌, ◌++◌, Bool, true, false, Option, Some, None, codes, map}
use Rattle.std.specs.List.{list_any}
use Rattle.spec_data.specs.Members.{Path}
use Rattle.index_tree.specs.Definitions.{Definition, Static, Auto, AutoReduce}
use Rattle.index_tree.specs.Mapper.{count_name, joined, sum_name}
use Rattle.index_tree.specs.declared.reduce_query.FoldKind.TheVariants as kind
use Rattle.index_tree.specs.declared.reduce_query.FoldMember.{FoldMember}
use Rattle.index_tree.specs.declared.reduce_query.FoldValue.{FoldValue}
use Rattle.index_tree.specs.declared.reduce_query.FoldValue.TheVariants as value
use Rattle.index_tree.specs.declared.reduce_query.ReduceQuery.{ReduceQuery}

abbrev pub key_member : Path → FoldMember
key_member path = record { name = joined path; value = value.Key (joined path) }

abbrev pub sum_member : List ℕ → FoldMember
sum_member name = record { name = name; value = value.Fold kind.Sum (codes "x") name }

-- an automatic index groups by these paths, counts the entries of a group, and sums what its entries have at those paths
abbrev pub auto_reduce : List Path → List Path → ReduceQuery
auto_reduce groups sums = record {
  var = codes "r";
  group = codes "g";
  key = map joined groups;
  members = map key_member groups ++ sum_member count_name ∷ map (λ path. sum_member (sum_name path)) sums;
}

abbrev pub is_quotient : FoldValue → Bool
is_quotient (value.Key part) = false
is_quotient (value.Fold kind var field) = false
is_quotient (value.Quotient var field by_var by) = true

abbrev pub reduce_of : Definition → Option ReduceQuery
reduce_of (Static map reduce map_text reduce_text) = reduce
reduce_of (Auto collection fields) = None
reduce_of (AutoReduce collection groups sums) = Some (auto_reduce groups sums)

abbrev pub divides : Option ReduceQuery → Bool
divides None = false
divides (Some reduce) = list_any (λ m. is_quotient m.value) reduce.members

-- a field of its groups is a quotient
abbrev pub has_quotient : Definition → Bool
has_quotient d = divides (reduce_of d)
