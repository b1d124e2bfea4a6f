-- Which stored rows are valid, and the rows that they are read as.
use Rattle.std.specs.Prelude.{ℕ, List, [], ◌∷◌, ◌++◌, Bool, false, not, ◌&&◌, nat_lt, nat_le, if◌then◌else◌, Option, Some, None, is_none, Result, Ok, Err, length, codes}
use Rattle.std.specs.Option.{option_map}
use Rattle.std.specs.List.{list_any}
use Rattle.std.specs.Str.{bytes_eq}
use Rattle.spec_data.specs.Data.{Data, object, pairs_of}
use Rattle.spec_data.specs.Faults.{is_fit, max_id}
use Rattle.spec_data.specs.Json.{JsonRefusal, reading}
use Rattle.spec_data.specs.Kept.{KeptRow}
pub use Rattle.spec_data.specs.Limits.{max_body, max_etag}
use Rattle.spec_data.specs.Members.{member}
use Rattle.spec_data.specs.Moments.{moments_end}
use Rattle.spec_data.specs.Rows.{Row, Body, doc, gone, key}
use Rattle.spec_data.specs.Written.{text_of}
use Rattle.spec_store.specs.Store.{row_at, last_of}
use Rattle.spec_store.specs.Commit.{is_server_member}

-- ONE ROW

-- the metadata is an object without the members that the server writes itself
abbrev pub is_clean : Option Data → Bool
is_clean (Some (object ms)) = not (list_any (λ m. is_server_member m.0) (pairs_of ms))
is_clean other = false

-- the value can be the document of a row: an object with clean metadata
abbrev pub is_stored : Data → Bool
is_stored (object ms) = is_clean (member (codes "@metadata") ms)
is_stored other = false

-- the value that was read of a text, if it can be a document and the text is exactly what is written for it
abbrev pub document_of : List ℕ → Result Data JsonRefusal → Option Data
document_of text (Err refusal) = None
document_of text (Ok d) = if is_stored d && bytes_eq (text_of d) text then Some d else None

abbrev pub document_in : List ℕ → Option Data
document_in text = if nat_le (length text) max_body then document_of text (reading text) else None

abbrev pub body_in : Option (List ℕ) → Option Body
body_in None = Some gone
body_in (Some text) = option_map doc (document_in text)

abbrev pub is_etag : ℕ → Bool
is_etag etag = nat_lt 0 etag && nat_le etag max_etag

-- the row that a stored row is read as, if its etag, id, collection, moment and body are valid
abbrev pub row_in : KeptRow → Option Row
row_in k =
    if is_etag k.etag && is_fit max_id k.id && nat_lt 0 (length k.collection) && nat_lt k.changed moments_end
    then option_map (λ body. record { etag = k.etag; id = k.id; collection = k.collection; body = body; changed = k.changed }) (body_in k.body)
    else None

-- ALL ROWS

-- the row may follow these: its etag is past theirs, its id is new, and they are fewer than `max`
abbrev pub can_follow : ℕ → List Row → Row → Bool
can_follow max earlier r = nat_lt (last_of 0 earlier) r.etag && is_none (row_at (key r) earlier) && nat_lt (length earlier) max

abbrev pub row_if_it_follows : ℕ → List Row → Option Row → Option Row
row_if_it_follows max earlier None = None
row_if_it_follows max earlier (Some r) = if can_follow max earlier r then Some r else None

abbrev pub or_bad_row : ℕ → Option Row → (Row → Result (List Row) ℕ) → Result (List Row) ℕ
or_bad_row etag None more = Err etag
or_bad_row etag (Some r) more = more r

abbrev pub rows_after : ℕ → List Row → List KeptRow → Result (List Row) ℕ
rows_after max earlier [] = Ok earlier
rows_after max earlier (k ∷ ks) = or_bad_row k.etag (row_if_it_follows max earlier (row_in k)) (λ r. rows_after max (earlier ++ r ∷ []) ks)

-- the rows that the stored rows are read as, or the etag of the first that is not valid
abbrev pub rows_in : ℕ → List KeptRow → Result (List Row) ℕ
rows_in max held = rows_after max [] held
