-- What the names of indexes of each kind are.
use Rattle.std.specs.Prelude.{◌≡◌, ℕ, List, Bool, not}
use Rattle.index_tree.specs.Definitions.{Definition, Static, Auto, AutoReduce}
use Rattle.spec_index.specs.World.{begins_with_auto, is_reserved_name, replaced_name}
use Rattle.side_by_side.specs.Naming.{IsNamedAs}
use Rattle.raven_world.specs.declared.naming.IndexName.{IndexName}

-- a name that begins as one of an index of its kind
abbrev pub begins_as : Definition → List ℕ → Bool
begins_as (Static map reduce map_text reduce_text) name = not (is_reserved_name name)
begins_as (Auto collection fields) name = begins_with_auto name
begins_as (AutoReduce collection groups sums) name = begins_with_auto name

-- the part of the name that the index's definition has: that of a replacement is the name that it is to take
abbrev pub own_part : Definition → List ℕ → List ℕ
own_part (Static map reduce map_text reduce_text) name = replaced_name name
own_part (Auto collection fields) name = name
own_part (AutoReduce collection groups sums) name = name

-- the definition's name is that which the index is to have once it replaces no other
pub record HasOwnName (n : IndexName) : Type 0 where
  pub own : n.own ≡ replaced_name n.name
  pub named : IsNamedAs n.name n.own
