-- How large a database may grow.
use Rattle.std.specs.Prelude.{ℕ, ◌≤◌, ◌<◌, ◌^◌, List}
use Rattle.std.specs.List.{All}
use Rattle.spec_store.specs.Store.{Store, last}
use Rattle.spec_index.specs.World.{Slot}
use Rattle.doc_store.specs.Bounds.{IsWithin}

-- no index has a number past this etag
abbrev pub NumbersUpTo : ℕ → List Slot → Type 0
NumbersUpTo latest slots = All (λ s. s.number ≤ latest) slots

pub record IsRoomy (S : Store) (most most_slots : ℕ) (live : List Slot) : Type 0 where
  pub store : IsWithin S
  pub rows : most < 2 ^ 32
  pub slots : most_slots < 2 ^ 32
  pub numbers : NumbersUpTo (last S) live
