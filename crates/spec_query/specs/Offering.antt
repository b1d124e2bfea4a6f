-- Which fields an index has for queries.
use Rattle.std.specs.Prelude.{◌∷◌, ◌++◌, false, true, Option, Some, None, map}
use Rattle.index_tree.specs.Definitions.{Definition, Static, Auto, AutoReduce}
use Rattle.index_tree.specs.Mapper.{count_name, joined, sum_name}
use Rattle.index_tree.specs.Scope.{fields_of}
use Rattle.index_tree.specs.declared.map_query.MapQuery.{MapQuery}
use Rattle.index_tree.specs.declared.reduce_query.ReduceQuery.{ReduceQuery}
use Rattle.spec_query.specs.Fields.{Offered}

-- those of the map or, with a reduce, those of the groups
abbrev pub offered_by : MapQuery → Option ReduceQuery → Offered
offered_by query None = record { names = fields_of query; reduced = false }
offered_by query (Some reduce) = record { names = map (λ m. m.name) reduce.members; reduced = true }

abbrev pub offered_of : Definition → Offered
offered_of (Static query reduce map_text reduce_text) = offered_by query reduce
offered_of (Auto collection fields) = record { names = map joined fields; reduced = false }
offered_of (AutoReduce collection groups sums) = record { names = map joined groups ++ count_name ∷ map sum_name sums; reduced = true }
