-- The tests of a command, on the row that it would write and on the row that its id has.
use Rattle.std.specs.Prelude.{ℕ, List, [], ◌∷◌, Bool, false, ◌||◌, ◌&&◌, ◌==◌, nat_lt, nat_le, Option, Some, None, is_some, is_none, length, codes}
use Rattle.std.specs.Str.{bytes_eq}
use Rattle.spec_data.specs.Folding.{folded}
use Rattle.spec_data.specs.Limits.{max_body, max_etag}
use Rattle.spec_data.specs.Rows.{Row, Body, doc, gone, is_document}
use Rattle.spec_data.specs.Written.{text_of}
use Rattle.spec_store.specs.Store.{Store, last, row_at}
use Rattle.spec_store.specs.Commit.{Setting, Writer, Client, Server, Expect, Refusal, ReservedId, TooLarge, StoreFull, EtagsSpent, differs, document_at, first_of, is_index_id, live_vector, other_collection, refuse_if}

-- the row is a document of the server's collection
abbrev pub is_definition : Option Row → Bool
is_definition None = false
is_definition (Some r) = is_document r && bytes_eq r.collection (codes "@indexes")

-- a client writes no id of a definition, and no such document
abbrev pub reserved_for : Writer → List ℕ → Option Row → Option Refusal
reserved_for Client id row = refuse_if (is_index_id id || is_definition row) ReservedId
reserved_for Server id row = None

-- the stored body is longer than may be when it is written
abbrev pub large_body : Body → Option Refusal
large_body (doc d) = let len = length (text_of d) in refuse_if (nat_lt max_body len) (TooLarge len)
large_body gone = None

abbrev pub large_row : Option Row → Option Refusal
large_row None = None
large_row (Some r) = large_body r.body

-- the id has a row in another collection
abbrev pub moved_row : Option Row → Option Row → Option Refusal
moved_row None old = None
moved_row (Some r) old = other_collection r.collection old

-- a new id finds as many rows as may be
abbrev pub full_for : Setting → Store → Option Row → Option Row → Option Refusal
full_for s S row old = refuse_if (is_some row && is_none old && nat_le s.max_rows (length S.rows)) (StoreFull (length S.rows))

-- a row is to be written and there is no further etag
abbrev pub spent_for : Store → Option Row → Option Refusal
spent_for S row = refuse_if (is_some row && (last S == max_etag)) (EtagsSpent (last S))

-- the first of the tests that refuses the id, the vector that is expected of its document, or the row
abbrev pub refused_for : Setting → Writer → Store → List ℕ → Expect → Option Row → Option Refusal
refused_for s w S id expected row =
    let old = row_at (folded id) S.rows in
    first_of (reserved_for w id row ∷ large_row row ∷ moved_row row old ∷ differs expected (live_vector s.base (document_at S (folded id))) ∷ full_for s S row old ∷ spent_for S row ∷ [])
