-- How a document is shown to a client.
use Rattle.std.specs.Prelude.{ℕ, List, [], Option, Some, codes}
use Rattle.spec_data.specs.Data.{Data, text, object, entries_of, pairs_of}
use Rattle.spec_data.specs.Members.{member}
use Rattle.spec_data.specs.Moments.{moment_text}
use Rattle.spec_data.specs.Rising.{Pairs, put}
use Rattle.spec_data.specs.Rows.{Row}
use Rattle.spec_store.specs.Commit.{vector_of}

-- the members of an object, and none of any other value
abbrev pub members_of : Option Data → Pairs
members_of (Some (object ms)) = pairs_of ms
members_of other = []

-- the metadata as a client sees it: the stored members, with those that the server writes
abbrev pub shown_metadata : List ℕ → Row → Option Data → Pairs
shown_metadata base r metadata =
    put (codes "@change-vector") (text (vector_of base r.etag)) (put (codes "@collection") (text r.collection)
    (put (codes "@id") (text r.id) (put (codes "@last-modified") (text (moment_text r.changed)) (members_of metadata))))

abbrev pub shown : List ℕ → Row → Data → Data
shown base r (object ms) = object (entries_of (put (codes "@metadata") (object (entries_of (shown_metadata base r (member (codes "@metadata") ms)))) (pairs_of ms)))
shown base r other = other
