-- Definitions whose rows can be reduced once more, together with other rows.
use Rattle.std.specs.Prelude.{Bool, true, Option, Some, None}
use Rattle.index_tree.specs.declared.reduce_query.ReduceQuery.{ReduceQuery}
use Rattle.index_tree.specs.Definitions.{Definition, Static, Auto, AutoReduce}
use Rattle.spec_index.specs.Again.{reduces_again}

abbrev pub reduces_if_any : Option ReduceQuery → Bool
reduces_if_any None = true
reduces_if_any (Some reduce) = reduces_again reduce

-- if texts say how its entries are reduced, its rows can be reduced once more in the same way
abbrev pub reduces_if : Definition → Bool
reduces_if (Static map reduce map_text reduce_text) = reduces_if_any reduce
reduces_if (Auto collection fields) = true
reduces_if (AutoReduce collection groups sums) = true
