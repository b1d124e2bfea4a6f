-- What a map reads, and the fields of its entries.
use Rattle.std.specs.Prelude.{ℕ, List, [], ◌∷◌, ◌++◌, not, filter, map, flat_map, Option, Some, None, if◌then◌else◌}
use Rattle.std.specs.List.{list_any}
use Rattle.std.specs.Str.{bytes_eq}
use Rattle.spec_data.specs.Rows.{Row}
use Rattle.index_tree.specs.Asking.{Lookup}
use Rattle.index_tree.specs.Trees.{Tree, If, Binary, Unary, Dot, Load, Num, Quoted, Flag, Null, Var}
use Rattle.index_tree.specs.declared.map_query.Clause.{Clause}
use Rattle.index_tree.specs.declared.map_query.Clause.TheVariants as clause
use Rattle.index_tree.specs.declared.map_query.MapQuery.{MapQuery}

-- the names of the members, in their order
abbrev pub fields_of : MapQuery → List (List ℕ)
fields_of query = map (λ m. m.name) query.members

-- the collections that an expression loads from, in order
abbrev pub named_in : Tree → List (List ℕ)
named_in (If test value other) = named_in test ++ (named_in value ++ named_in other)
named_in (Binary o left right) = named_in left ++ named_in right
named_in (Unary o operand) = named_in operand
named_in (Dot holder name) = named_in holder
named_in (Load id collection) = named_in id ++ collection ∷ []
named_in (Num n) = []
named_in (Quoted s) = []
named_in (Flag b) = []
named_in Null = []
named_in (Var name) = []

abbrev pub clause_names : Clause → List (List ℕ)
clause_names (clause.Where test) = named_in test
clause_names (clause.Let name value) = named_in value

abbrev pub all_named : MapQuery → List (List ℕ)
all_named query = flat_map clause_names query.clauses ++ flat_map (λ m. named_in m.value) query.members

-- without the name
abbrev pub others : List ℕ → List (List ℕ) → List (List ℕ)
others name names = filter (λ other. not (bytes_eq name other)) names

-- each name at its first place
abbrev pub each_once : List (List ℕ) → List (List ℕ)
each_once [] = []
each_once (name ∷ more) = name ∷ others name (each_once more)

-- the collections that are loaded from, next to the mapped one
abbrev pub loaded_of : MapQuery → List (List ℕ)
loaded_of query = others query.collection (each_once (all_named query))

abbrev pub scope_of : MapQuery → List (List ℕ)
scope_of query = query.collection ∷ loaded_of query

-- the row, if its collection is one of these
abbrev pub kept_in : List (List ℕ) → Option Row → Option Row
kept_in scope None = None
kept_in scope (Some r) = if list_any (bytes_eq r.collection) scope then Some r else None

-- the lookup without the rows of other collections
abbrev pub within : List (List ℕ) → Lookup → Lookup
within scope find = λ id. kept_in scope (find id)
