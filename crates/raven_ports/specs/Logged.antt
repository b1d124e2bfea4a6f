-- How a log shows the rows that it holds.
use Rattle.std.specs.Prelude.{ℕ, ◌≤◌, List, [], ◌∷◌, Option, Some, None, Bool, false, cond, nat_lt, length, take, drop}
use Rattle.std.specs.List.{list_any}
use Rattle.std.specs.Ordering.{on}
use Rattle.std.specs.declared.cmp.Ordering.{Ordering}
use Rattle.spec_data.specs.Folding.{folded, key_cmp, same_key}
use Rattle.spec_data.specs.Kept.{KeptRow, EtagsRise, keep_all, kept_key}

-- ids by their folded forms
abbrev pub id_cmp : List ℕ → List ℕ → Ordering
id_cmp = on folded key_cmp

-- what a log holds: its first rows, so many, and then each of the others put in
abbrev pub held_in : ℕ → List KeptRow → List KeptRow
held_in first rows = keep_all (take first rows) (drop first rows)

-- there are that many first rows, and the etags of all rise
pub record IsLog (first : ℕ) (rows : List KeptRow) : Type 0 where
  pub within : first ≤ length rows
  pub rising : EtagsRise None rows

-- the row has the id of one of these
abbrev pub is_among : List KeptRow → KeptRow → Bool
is_among ks x = list_any (λ k. same_key (kept_key k) (kept_key x)) ks

-- the etag of the last row of a folded id, or this one if there is none
abbrev pub last_of_id : Option ℕ → List ℕ → List KeptRow → Option ℕ
last_of_id found q [] = found
last_of_id found q (k ∷ ks) = last_of_id (cond (same_key (kept_key k) q) (Some k.etag) found) q ks

-- the etag of the row is below this one
abbrev pub is_below : Option ℕ → KeptRow → Bool
is_below None x = false
is_below (Some etag) x = nat_lt x.etag etag
