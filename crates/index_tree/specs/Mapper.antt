-- The meaning of a definition: what its map gives for a document, over the documents that are recorded.
use Rattle.std.specs.Prelude.{◌≡◌, ℕ, pos, List, [], ◌∷◌, ◌++◌, Bool, Option, Some, None, codes, refl}
use Rattle.std.specs.Str.{bytes_eq}
use Rattle.std.specs.FinMap.{get}
use Rattle.spec_data.specs.Data.{Data}
use Rattle.spec_data.specs.Members.{Path, value_at}
use Rattle.spec_data.specs.Rising.{put}
use Rattle.spec_data.specs.Scalars.{Scalar, nothing, number, scalar_of}
use Rattle.spec_data.specs.Rows.{Row, Body, doc, gone}
use Rattle.index_tree.specs.declared.map_query.MapQuery.{MapQuery}
use Rattle.index_tree.specs.Asking.{AgreeAt}
use Rattle.index_tree.specs.Local.{meaning_local}
use Rattle.index_tree.specs.Meaning.{Fields}
use Rattle.index_tree.specs.Meaning as query
use Rattle.index_tree.specs.Scope.{loaded_of}
use Rattle.spec_data.specs.Tables.{Table, Scope}
pub use Rattle.index_tree.specs.Meaning.{Entry, Mapped}
use Rattle.index_tree.specs.Definitions.{Definition, Static, Auto, AutoReduce}

-- the two tables have the same at these ids
abbrev pub AlikeAt : List (List ℕ) → Table → Table → Type 0
AlikeAt qs T U = AgreeAt qs (get T) (get U)

-- the meaning of a definition: it depends on the document and on what it loads, and on nothing else
pub record Mapper : Type 0 where
  pub collection : List ℕ
  pub loaded : List (List ℕ)
  pub meaning : Row → Table → Mapped
  pub local : (d : Row) (T U : Table) → AlikeAt (meaning d T).loads T U → meaning d U ≡ meaning d T

abbrev pub scope_of : Mapper → Scope
scope_of m = m.collection ∷ m.loaded

abbrev pub is_mapped : Mapper → Row → Bool
is_mapped m d = bytes_eq d.collection m.collection

abbrev pub scalar_at : Path → Data → Scalar
scalar_at path d = scalar_or_null (value_at path d)
  where
    scalar_or_null : Option Data → Scalar
    scalar_or_null None = nothing
    scalar_or_null (Some v) = scalar_of v

-- the name of the field that a path leads to
abbrev pub joined : Path → List ℕ
joined [] = []
joined (part ∷ []) = part
joined (part ∷ parts) = part ++ (codes "." ++ joined parts)

abbrev pub field_of : Body → Path → Scalar
field_of (doc d) path = scalar_at path d
field_of gone path = nothing

-- each field that a path leads to goes in at its name
abbrev pub fields_at : Body → Fields → List Path → Fields
fields_at body found [] = found
fields_at body found (path ∷ more) = fields_at body (put (joined path) (field_of body path) found) more

-- an automatic index gives an entry for each document, and loads nothing
abbrev pub auto_meaning : List Path → Row → Table → Mapped
auto_meaning fields d T = record { outcome = Entry (fields_at d.body [] fields); loads = [] }

-- WITH GROUPS: an entry has the groups, a one, and what is summed

abbrev pub count_name : List ℕ
count_name = codes "count()"

abbrev pub sum_name : Path → List ℕ
sum_name path = codes "sum(" ++ (joined path ++ codes ")")

abbrev pub sums_at : Body → Fields → List Path → Fields
sums_at body found [] = found
sums_at body found (path ∷ more) = sums_at body (put (sum_name path) (field_of body path) found) more

abbrev pub grouped_meaning : List Path → List Path → Row → Table → Mapped
grouped_meaning groups sums d T = record { outcome = Entry (sums_at d.body (put count_name (number (pos 1)) (fields_at d.body [] groups)) sums); loads = [] }

-- a map looks documents up in the table alone
abbrev pub static_meaning : MapQuery → Row → Table → Mapped
static_meaning map d T = query.meaning map d (get T)

abbrev pub static_mapper : MapQuery → Mapper
static_mapper map = record { collection = map.collection; loaded = loaded_of map; meaning = static_meaning map; local = λ d T U alike. meaning_local map d (get T) (get U) alike }

abbrev pub mapper_of : Definition → Mapper
mapper_of (Static map reduce map_text reduce_text) = static_mapper map
mapper_of (Auto collection fields) = record { collection = collection; loaded = []; meaning = auto_meaning fields; local = λ d T U alike. refl }
mapper_of (AutoReduce collection groups sums) = record { collection = collection; loaded = []; meaning = grouped_meaning groups sums; local = λ d T U alike. refl }
