-- Which rows and definitions can be stored and read again, and which events and lines write only such rows.
use Rattle.std.specs.Prelude.{◌<◌, ◌≤◌, List, [], ◌∷◌, IsTrue, IsUtf8, length}
use Rattle.spec_data.specs.Data.{Data, depth}
use Rattle.spec_data.specs.Faults.{is_fit, max_id}
use Rattle.spec_data.specs.Members.{Path}
use Rattle.spec_data.specs.Moments.{moments_end}
use Rattle.spec_data.specs.Rows.{Row, Body, doc, gone}
use Rattle.spec_data.specs.Sound.{IsSound}
use Rattle.spec_data.specs.Written.{text_of}
use Rattle.spec_store.specs.Kept.{is_etag, is_stored, max_body}
use Rattle.index_tree.specs.Definitions.{Definition, Auto, AutoReduce, Static}
use Rattle.spec_server.specs.Requests.{Event}
use Rattle.spec_server.specs.Opening.{are_rising}
use Rattle.spec_server.specs.Script.{Given}
use Rattle.raven_reading.specs.Requests.{ArePaths, IsValidLine}

-- ROWS

-- the document can be stored and read again
pub record IsStorable (d : Data) : Type 0 where
  pub sound : IsSound d
  pub shallow : depth d ≤ 100
  pub clean : IsTrue (is_stored d)
  pub small : length (text_of d) ≤ max_body

abbrev pub IsValidBody : Body → Type 0
IsValidBody (doc d) = IsStorable d
IsValidBody gone = Unit {0}

pub record IsValidRow (r : Row) : Type 0 where
  pub etag : IsTrue (is_etag r.etag)
  pub id : IsTrue (is_fit max_id r.id)
  pub collection : 0 < length r.collection
  pub changed : r.changed < moments_end
  pub body : IsValidBody r.body

abbrev pub AreValidRows : List Row → Type 0
AreValidRows [] = Unit {0}
AreValidRows (r ∷ rows) = IsValidRow r × AreValidRows rows

-- INDEXES

-- paths that an index can have and be read again with: they are valid, and each joined form is below the next
pub record AreKept (fields : List Path) : Type 0 where
  pub paths : ArePaths fields
  pub rising : IsTrue (are_rising fields)

-- an automatic definition has such paths, and a collection that is UTF-8
abbrev pub IsKept : Definition → Type 0
IsKept (Static map reduce map_text reduce_text) = Unit {0}
IsKept (Auto collection fields) = IsUtf8 collection × AreKept fields
IsKept (AutoReduce collection groups sums) = IsUtf8 collection × (AreKept groups × AreKept sums)

-- EVENTS

pub record IsEvent (e : Event) : Type 0 where
  pub moment : e.now < moments_end
  pub valid : IsValidLine e.line

abbrev pub AreEvents : List Event → Type 0
AreEvents [] = Unit {0}
AreEvents (e ∷ es) = IsEvent e × AreEvents es

-- LINES

-- each line comes at a moment before the end
abbrev pub AreTimely : List Given → Type 0
AreTimely [] = Unit {0}
AreTimely (g ∷ more) = (g.circumstance.now < moments_end) × AreTimely more
