-- The body of a `Definition` of the program, and what it is.
use Rattle.std.specs.Prelude.{ℕ, List, Option, Some, None}
use Rattle.spec_data.specs.Members.{Path}
use Rattle.index_tree.specs.Definitions as is
use Rattle.index_definition.specs.declared.definition.DefBody.{DefBody}
use Rattle.index_definition.specs.declared.definition.DefBody.TheVariants.{Static, Auto}

-- an automatic index, with groups or without
abbrev pub automatic : List ℕ → Option (List Path) → List Path → is.Definition
automatic collection None fields = is.Auto collection fields
automatic collection (Some groups) fields = is.AutoReduce collection groups fields

abbrev pub definition_view : DefBody → is.Definition
definition_view (Static map reduce map_text reduce_text) = is.Static map reduce map_text reduce_text
definition_view (Auto shape) = automatic shape.collection shape.groups shape.fields
