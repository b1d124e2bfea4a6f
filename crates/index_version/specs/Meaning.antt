-- What a definition means to a map that looks documents up.
use Rattle.std.specs.Prelude.{◌≡◌, pos, List, [], Option, Some, None, refl}
use Rattle.std.specs.FinMap.{get, empty}
use Rattle.spec_data.specs.Members.{Path}
use Rattle.spec_data.specs.Rising.{put}
use Rattle.spec_data.specs.Data.{Data}
use Rattle.spec_data.specs.Rows.{Row, Body, doc, gone}
use Rattle.spec_data.specs.Scalars.{number}
use Rattle.index_tree.specs.Asking.{Lookup, AgreeAt}
use Rattle.index_tree.specs.Local.{meaning_local}
use Rattle.index_tree.specs.Meaning as query
use Rattle.spec_data.specs.Tables.{Table}
use Rattle.index_tree.specs.Definitions.{Definition, Static, Auto, AutoReduce}
use Rattle.index_tree.specs.Meaning.{Entry, Fields, Mapped}
use Rattle.index_tree.specs.Mapper.{auto_meaning, count_name, fields_at, grouped_meaning, mapper_of, sums_at}

-- over whatever rows are looked up
abbrev pub found_meaning : Definition → Row → Lookup → Mapped
found_meaning (Static map reduce map_text reduce_text) d find = query.meaning map d find
found_meaning (Auto collection fields) d find = auto_meaning fields d empty
found_meaning (AutoReduce collection groups sums) d find = grouped_meaning groups sums d empty

-- it hangs on what the lookups give, and on nothing else
pub found_local : (definition : Definition) (d : Row) (find other : Lookup) → AgreeAt (found_meaning definition d find).loads find other → found_meaning definition d other ≡ found_meaning definition d find
found_local (Static map reduce map_text reduce_text) d find other alike = meaning_local map d find other alike
found_local (Auto collection fields) d find other alike = refl
found_local (AutoReduce collection groups sums) d find other alike = refl

-- the meaning over tables is that of the definition
abbrev pub Means : (Row → Lookup → Mapped) → Definition → Type 0
Means meaning definition = (d : Row) (T : Table) → meaning d (get T) ≡ (mapper_of definition).meaning d T

-- WHAT AN AUTOMATIC INDEX GIVES

-- the body of a document, or of a tombstone
abbrev pub body_with : Option Data → Body
body_with None = gone
body_with (Some d) = doc d

-- with groups: these, a one, and what is summed
abbrev pub grouped_fields : List Path → List Path → Body → Fields
grouped_fields groups sums body = sums_at body (put count_name (number (pos 1)) (fields_at body [] groups)) sums

abbrev pub shape_fields : Option (List Path) → List Path → Body → Fields
shape_fields None fields body = fields_at body [] fields
shape_fields (Some groups) sums body = grouped_fields groups sums body

abbrev pub shape_meaning : Option (List Path) → List Path → Row → Mapped
shape_meaning groups fields d = record { outcome = Entry (shape_fields groups fields d.body); loads = [] }
