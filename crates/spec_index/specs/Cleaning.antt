-- Cleaning a database: the tombstones that no index has to read any more go.
use Rattle.std.specs.Prelude.{ℕ, ◌-◌, List, [], ◌∷◌, nat_lt, filter, map, min}
use Rattle.spec_store.specs.Store.{last}
use Rattle.spec_store.specs.Cleaning.{clean}
use Rattle.spec_index.specs.World.{Slot, World}

-- the etags that indexes have reached, but for those that have read nothing: such an index has no document that a tombstone could take out
abbrev pub etags_reached : List Slot → List ℕ
etags_reached slots = filter (λ e. nat_lt 0 e) (map (λ s. s.version.etag) slots)

-- the least of `most` and these
abbrev pub least : ℕ → List ℕ → ℕ
least most [] = most
least most (e ∷ es) = least (min most e) es

-- the etag up to which tombstones may go: all indexes that have read something have reached it, and it is below that of the last row, which stays
abbrev pub clean_upto : World → ℕ
clean_upto W = least (last W.store - 1) (etags_reached W.slots)

-- the database without these tombstones
abbrev pub cleaned_world : World → World
cleaned_world W = record { setting = W.setting; store = clean (clean_upto W) W.store; slots = W.slots; notes = W.notes }
