-- What workers hold.
use Rattle.std.specs.Prelude.{◌≡◌, ℕ, List, [], ◌∷◌, ◌++◌, ◌==◌, not, Option, Some, None, filter, map, refl}
use Rattle.std.specs.Coded.{Coded, coded_ℕ, coded×, code_by}
use Rattle.index_version.specs.Named.{NamedVersion, named_version_code}
use Rattle.spec_index.specs.World.{Slot, World}
use Rattle.spec_server.specs.Courses.{Held}
use Rattle.spec_server.specs.Sound.{Has, IsHeld}
use Rattle.side_by_side.specs.Naming.{IsNamedAs}

-- a batch that a worker has read and not yet published, with the name that its definition has
pub record NamedBatch : Type 0 where
  pub worker : ℕ
  pub number : ℕ
  pub version : NamedVersion

abbrev pub named_batch_code : Coded NamedBatch
named_batch_code = code_by (ℕ × (ℕ × NamedVersion)) (coded× coded_ℕ (coded× coded_ℕ named_version_code)) (λ b. (b.worker, (b.number, b.version)))
    (λ p. record { worker = p.0; number = p.1.0; version = p.1.1 }) (λ _. refl)

-- the batch as the machine has it
abbrev pub held_of : NamedBatch → Held
held_of b = record { worker = b.worker; number = b.number; version = b.version.version }

abbrev pub all_held : List NamedBatch → List Held
all_held batches = map held_of batches

-- The batch may be published in this world. If its index is still there, the name of the definition goes with that of the index.
pub record MayWait (W : World) (b : NamedBatch) : Type 0 where
  pub held : IsHeld W (held_of b)
  pub named : (s : Slot) → Has W.slots s → s.number ≡ b.number → IsNamedAs s.name b.version.name

abbrev pub MayAllWait : World → List NamedBatch → Type 0
MayAllWait W batches = (b : NamedBatch) → Has batches b → MayWait W b

-- those of all other workers
abbrev pub of_others : ℕ → List NamedBatch → List NamedBatch
of_others worker batches = filter (λ b. not (b.worker == worker)) batches

-- those after the worker has read this version of the index of this number, or found nothing to read
abbrev pub after_read : ℕ → ℕ → Option NamedVersion → List NamedBatch → List NamedBatch
after_read worker number None batches = of_others worker batches
after_read worker number (Some v) batches = of_others worker batches ++ record { worker = worker; number = number; version = v } ∷ []

-- the etag to which it was read
abbrev pub read_to : ℕ → Option NamedVersion → ℕ
read_to from None = from
read_to from (Some v) = v.version.etag
