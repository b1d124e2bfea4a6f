-- The rows in a scope past an etag: those that an index at that etag has not seen.
use Rattle.std.specs.Prelude.{ℕ, List, Bool, true, ◌&&◌, nat_lt, nat_le, Option, Some, None, filter, take, drop, ◌≡◌, ◌<◌, IsTrue}
use Rattle.std.specs.List.{list_any}
use Rattle.spec_data.specs.Rows.{Row}
use Rattle.spec_store.specs.Store.{Store, last_of, row_at}
use Rattle.spec_data.specs.Tables.{Scope, in_scope}

-- the rows in scope past an etag, in order of etag
abbrev pub past : Scope → ℕ → Store → List Row
past scope e S = filter (λ r. in_scope scope r && nat_lt e r.etag) S.rows

abbrev pub batch_rows : Scope → ℕ → Store → ℕ → List Row
batch_rows scope e S max = take max (past scope e S)

abbrev pub left_over : Scope → ℕ → Store → ℕ → List Row
left_over scope e S max = drop max (past scope e S)

-- the etag is not past the cutoff, if there is one
abbrev pub up_to : Option ℕ → ℕ → Bool
up_to None etag = true
up_to (Some c) etag = nat_le etag c

-- some row in scope is past the etag, and not past the cutoff
abbrev pub stale : Store → Scope → ℕ → Option ℕ → Bool
stale S scope e cutoff = list_any (λ r. in_scope scope r && nat_lt e r.etag && up_to cutoff r.etag) S.rows

-- the greatest etag of a row in scope up to a cutoff, or 0
abbrev pub newest : Store → Scope → Option ℕ → ℕ
newest S scope cutoff = last_of 0 (filter (λ r. in_scope scope r && up_to cutoff r.etag) S.rows)

-- a row in scope that is past the etag, and not past the cutoff
pub record Unseen (S : Store) (scope : Scope) (e : ℕ) (cutoff : Option ℕ) : Type 0 where
  pub id : List ℕ
  pub row : Row
  pub found : row_at id S.rows ≡ Some row
  pub read : IsTrue (in_scope scope row)
  pub past : e < row.etag
  pub before : IsTrue (up_to cutoff row.etag)
