-- Rows of definitions of the first version, as they would be written in the second.
use Rattle.std.specs.Prelude.{pos, Bool, true, false, codes}
use Rattle.spec_data.specs.Data.{Data, num, object, entries_of, pairs_of}
use Rattle.spec_data.specs.Rising.{put}
use Rattle.spec_data.specs.Rows.{Row, Body, doc, gone}
use Rattle.spec_server.specs.Opening.{ReadRow, is_defining}

-- the object with the member that says the second version
abbrev pub with_version : Data → Data
with_version (object ms) = object (entries_of (put (codes "Version") (num (pos 2)) (pairs_of ms)))
with_version other = other

abbrev pub upgraded_body : Bool → Body → Body
upgraded_body true (doc d) = doc (with_version d)
upgraded_body true gone = gone
upgraded_body false (doc d) = doc d
upgraded_body false gone = gone

-- the row of a definition with that member, and any other row as it is
abbrev pub upgraded : Row → Row
upgraded r = record { etag = r.etag; id = r.id; collection = r.collection; body = upgraded_body (is_defining r) r.body; changed = r.changed }

abbrev pub upgraded_read : ReadRow → ReadRow
upgraded_read x = record { row = upgraded x.row; definition = x.definition }
