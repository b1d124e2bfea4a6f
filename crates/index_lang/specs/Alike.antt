-- Whether two definitions of the program have the same reduce.
use Rattle.std.specs.Prelude.{◌≡◌, Option, Some}
use Rattle.index_tree.specs.declared.reduce_query.ReduceQuery.{ReduceQuery}
use Rattle.index_definition.specs.declared.definition.DefBody.{DefBody}
use Rattle.index_definition.specs.declared.definition.DefBody.TheVariants.{Static}

-- both are there, and are the same
abbrev pub AreAlike : Option ReduceQuery → Option ReduceQuery → Type 0
AreAlike (Some r) (Some s) = r ≡ s
AreAlike r s = ⊥

abbrev pub ReduceAlike : DefBody → DefBody → Type 0
ReduceAlike (Static map r text words) (Static other s load more) = AreAlike r s
ReduceAlike d e = ⊥
