-- Which rows a store is opened with.
use Rattle.std.specs.Prelude.{◌≡◌, ℕ, ◌++◌, List, [], ◌∷◌, Bool, true, ◌&&◌, not, nat_lt, nat_le, is_some, length, Option, Some, None, if◌then◌else◌}
use Rattle.spec_data.specs.Limits.{max_etag, moments_end}
use Rattle.spec_data.specs.Rows.{Row, key}
use Rattle.spec_store.specs.Store.{row_at, last_of}
use Rattle.doc_store.specs.declared.opening.OpenFault.{OpenFault}
use Rattle.doc_store.specs.declared.opening.OpenFault.TheVariants.{KeptBad, NoMemory}

-- the row may follow the earlier ones: its etag is past theirs and within the bound, its id is new, its collection has a
-- name, and it was changed before the year 9999
abbrev pub is_sound_after : List Row → Row → Bool
is_sound_after earlier r =
    nat_lt (last_of 0 earlier) r.etag && nat_le r.etag max_etag && not (is_some (row_at (key r) earlier)) && nat_lt 0 (length r.collection) && nat_lt r.changed moments_end

-- the same but for the id, of a row after one with the etag `last`
abbrev pub is_next : ℕ → Row → Bool
is_next last r = nat_lt last r.etag && nat_le r.etag max_etag && nat_lt 0 (length r.collection) && nat_lt r.changed moments_end

-- of each row
abbrev pub are_next : ℕ → List Row → Bool
are_next last [] = true
are_next last (r ∷ rows) = is_next last r && are_next r.etag rows

-- the etag of the first row that may not follow those before it
abbrev pub first_bad : List Row → List Row → Option ℕ
first_bad earlier [] = None
first_bad earlier (r ∷ rows) = if is_sound_after earlier r then first_bad (earlier ++ r ∷ []) rows else Some r.etag

-- a fault that names an etag names that of the bad row; memory may run out at any point
abbrev pub Tells : OpenFault → Option ℕ → Type 0
Tells (KeptBad etag) bad = bad ≡ Some etag
Tells NoMemory bad = Unit {0}
