-- Stored rows, read before their ids are compared.
use Rattle.std.specs.Prelude.{ℕ, List, [], ◌∷◌, ◌++◌, Bool, ◌&&◌, nat_lt, if◌then◌else◌, Option, Some, None, Result, Ok, Err, length}
use Rattle.std.specs.Option.{option_or}
use Rattle.spec_data.specs.Kept.{KeptRow}
use Rattle.spec_data.specs.Rows.{Row}
use Rattle.spec_store.specs.Kept.{row_in}
use Rattle.spec_store.specs.Store.{last_of}
use Rattle.doc_store.specs.Opening.{first_bad}

-- the row may follow these, if its id is new
abbrev pub has_place : ℕ → List Row → Row → Bool
has_place max earlier r = nat_lt (last_of 0 earlier) r.etag && nat_lt (length earlier) max

abbrev pub row_with_place : ℕ → List Row → Option Row → Option Row
row_with_place max earlier None = None
row_with_place max earlier (Some r) = if has_place max earlier r then Some r else None

abbrev pub or_stop : List Row → ℕ → Option Row → (Row → List Row × Option ℕ) → List Row × Option ℕ
or_stop earlier etag None more = (earlier, Some etag)
or_stop earlier etag (Some r) more = more r

-- these rows and the rows of stored ones up to the first bad one, and the etag of that
abbrev pub read_on : ℕ → List Row → List KeptRow → List Row × Option ℕ
read_on max earlier [] = (earlier, None)
read_on max earlier (k ∷ ks) = or_stop earlier k.etag (row_with_place max earlier (row_in k)) (λ r. read_on max (earlier ++ r ∷ []) ks)

abbrev pub unless_bad : List Row → Option ℕ → Result (List Row) ℕ
unless_bad rows None = Ok rows
unless_bad rows (Some etag) = Err etag

-- these rows, unless one of them is bad, or the one after them
abbrev pub judged : List Row → Option ℕ → Result (List Row) ℕ
judged rows bad = unless_bad rows (option_or (first_bad [] rows) bad)
