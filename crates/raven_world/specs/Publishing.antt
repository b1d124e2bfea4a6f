-- Batches that are read from a world and published in a later one.
use Rattle.std.specs.Prelude.{◌≡◌, ℕ, List, [], ◌∷◌, Option, Some, None, Result, Ok, Err, IfSome, option_map}
use Rattle.spec_store.specs.Store.{Store}
use Rattle.spec_index.specs.World.{Slot, World, batch, numbered, serving}
use Rattle.spec_server.specs.Workers as is
use Rattle.index_version.specs.Named.{NamedVersion}
use Rattle.side_by_side.specs.Naming.{IsNamedAs}
use Rattle.raven_world.specs.declared.publish.Batch.{Batch}
use Rattle.raven_world.specs.declared.publish.PublishRefusal.{PublishRefusal}
use Rattle.raven_world.specs.declared.publish.PublishRefusal.TheVariants.{Gone, Passed, Cleaned, NoMemory}

-- what is read for this index: its number, how far it has come, and the version after its next batch, if it is not up to date
pub record IsReadOf (S : Store) (max : ℕ) (s : Slot) (b : Batch) : Type 0 where
  pub number : b.number ≡ s.number
  pub from : b.from ≡ s.version.etag
  pub version : option_map (λ v. v.value.version) b.version ≡ batch s.version S max
  pub named : IfSome b.version (λ v. IsNamedAs s.name v.value.name)

-- what is read for the index that serves the name
pub record IsReadAt (W : World) (max : ℕ) (index : List ℕ) (b : Batch) : Type 0 where
  pub slot : Slot
  pub serves : serving W.slots index ≡ Some slot
  pub read : IsReadOf W.store max slot b

-- nothing is read exactly if no index serves the name
abbrev pub IsRead : World → ℕ → List ℕ → Option Batch → Type 0
IsRead W max index None = serving W.slots index ≡ None
IsRead W max index (Some b) = IsReadAt W max index b

-- if the index of this number is still there, it has the version's definition, and a name under which the version may stand
abbrev pub MayPublish : World → ℕ → NamedVersion → Type 0
MayPublish W n v = (s : Slot) → numbered W.slots n ≡ Some s → (s.version.definition ≡ v.version.definition) × IsNamedAs s.name v.name

-- the world in which a version is published, or why it is not; nothing if no memory was found
abbrev pub published_view : Result World PublishRefusal → Option (Result World is.PublishRefusal)
published_view (Ok W) = Some (Ok W)
published_view (Err (Gone number)) = Some (Err (is.Gone number))
published_view (Err (Passed now)) = Some (Err (is.Passed now))
published_view (Err (Cleaned upto)) = Some (Err (is.Cleaned upto))
published_view (Err NoMemory) = None

-- the index of which a batch is read, if there is one
abbrev pub read_of : Option Slot → List Slot
read_of None = []
read_of (Some s) = s ∷ []
