-- Cleaning: the tombstones up to an etag are taken out of a store.
use Rattle.std.specs.Prelude.{ℕ, List, Bool, not, ◌&&◌, nat_le, if◌then◌else◌, filter, is_none, Option, Some, None}
use Rattle.std.specs.List.{list_any}
use Rattle.spec_data.specs.Kept.{KeptRow, all_kept, keep_all}
use Rattle.spec_data.specs.Rows.{Row, is_document}
use Rattle.spec_store.specs.Store.{Store}

-- a tombstone with an etag of at most `upto`
abbrev pub is_old_tombstone : ℕ → Row → Bool
is_old_tombstone upto r = not (is_document r) && nat_le r.etag upto

-- these tombstones, in order of etag
abbrev pub old_tombstones : ℕ → List Row → List Row
old_tombstones upto rows = filter (is_old_tombstone upto) rows

-- all other rows
abbrev pub without_tombstones : ℕ → List Row → List Row
without_tombstones upto rows = filter (λ r. not (is_old_tombstone upto r)) rows

-- the store without the tombstones up to an etag; if it has none of these, it is as it was
abbrev pub clean : ℕ → Store → Store
clean upto S =
    if list_any (is_old_tombstone upto) S.rows
    then record { rows = without_tombstones upto S.rows; cleaned = upto }
    else S

-- WHAT A KEEPER STORES after that

-- a stored tombstone with an etag of at most `upto`
abbrev pub is_old_mark : ℕ → KeptRow → Bool
is_old_mark upto k = is_none k.body && nat_le k.etag upto

-- the stored rows without these
abbrev pub cleared : ℕ → List KeptRow → List KeptRow
cleared upto held = filter (λ k. not (is_old_mark upto k)) held

-- what a keeper stores once it has stored these rows; or, with an etag, has removed the tombstones up to it, which are these
abbrev pub kept_by : List Row → Option ℕ → List KeptRow → List KeptRow
kept_by rows None held = keep_all held (all_kept rows)
kept_by rows (Some upto) held = cleared upto held
