-- Turns of indexes, by one thread over a turn.
use Rattle.std.specs.Prelude.{◌≡◌, ◌<◌, ℕ, List, [], ◌∷◌, true, false, Option, Some, None, Ok, Err}
use Rattle.index_version.specs.Named.{NamedVersion}
use Rattle.side_by_side.specs.Naming.{IsNamedAs}
use Rattle.spec_index.specs.World.{Slot, Version, World, batch, is_stale, numbered}
use Rattle.spec_server.specs.Workers as is
use Rattle.spec_server.specs.Courses.{Held}
use Rattle.spec_server.specs.Workers.{published}
use Rattle.spec_server.specs.Replies as replies
use Rattle.spec_server.specs.Replies.{Reply}
use Rattle.spec_server.specs.Sound.{Has, IsHeld}
use Rattle.spec_desk.specs.Lived.{Follows, Lived, lived}
use Rattle.raven_pump.specs.declared.turned.Turned.{Turned}
use Rattle.raven_pump.specs.declared.turned.Turned.TheVariants.{Idle, Moved, Gone, Passed, Cleaned}

-- BATCHES THAT WAIT

-- a batch of the index of this number, whoever holds it
abbrev pub batch_of : ℕ → Version → Held
batch_of n v = record { worker = 0; number = n; version = v }

-- The batch may be published in this world. If its index is still there, the name of its definition goes with that of the index.
pub record MayWait (W : World) (n : ℕ) (v : NamedVersion) : Type 0 where
  pub held : IsHeld W (batch_of n v.version)
  pub named : (s : Slot) → Has W.slots s → s.number ≡ n → IsNamedAs s.name v.name

-- it might be published on a value that x follows
abbrev pub WaitsSince : ℕ → NamedVersion → Lived → Type 0
WaitsSince n v x = (w : Lived) × MayWait w.world n v × Follows w x

-- PUBLISHING

-- what the reply to a publication says of the index; any other reply says nothing
abbrev pub told_by : Reply → Option Turned
told_by (replies.Published from name to) = Some (Moved from to)
told_by (replies.Gone number) = Some Gone
told_by (replies.Passed now) = Some (Passed now)
told_by (replies.Cleaned upto) = Some (Cleaned upto)
told_by other = None

-- A batch that is past its index was overtaken: since it was read the store was cleaned of tombstones up to this etag, which is past the batch.
pub record IsOvertaken (W : World) (n : ℕ) (v : Version) (upto : ℕ) : Type 0 where
  pub slot : Slot
  pub live : numbered W.slots n ≡ Some slot
  pub ahead : slot.version.etag < v.etag
  pub cleaned : upto ≡ W.store.cleaned
  pub since : v.cleaned < upto
  pub past : v.etag < upto

-- What came of a batch that was published on y, where z was left: its version took the place of that of its index, and nothing else changed; or it was
-- refused, as the machine refuses it, and nothing changed.
abbrev pub Publishes : ℕ → Version → Lived → Turned → Lived → Type 0
Publishes n v y Idle z = ⊥
Publishes n v y (Moved from to) z =
    (s : Slot) × (numbered y.world.slots n ≡ Some s) × (from ≡ s.version.etag) × (to ≡ v.etag) × (published y.world n v ≡ Ok z.world) × (z ≡ lived z.world y.keeper y.fronts)
Publishes n v y Gone z = (published y.world n v ≡ Err (is.Gone n)) × (z ≡ y)
Publishes n v y (Passed now) z = (published y.world n v ≡ Err (is.Passed now)) × (z ≡ y)
Publishes n v y (Cleaned upto) z = IsOvertaken y.world n v upto × (published y.world n v ≡ Err (is.Cleaned upto)) × (z ≡ y)

-- TURNS

-- A turn of the index of this number, whose look found x. It is Idle exactly if the index of that look is not stale. If it is, the next batch of the index
-- of that look is published on a value that follows x. The thread has then seen exactly what was left.
pub data Turns (n max : ℕ) (x : Lived) (t : Turned) (seen' : List Lived) : Type 0 where
  absent : numbered x.world.slots n ≡ None → t ≡ Gone → seen' ≡ x ∷ [] → Turns n max x t seen'
  idle : (s : Slot) → numbered x.world.slots n ≡ Some s → is_stale x.world.store s ≡ false → t ≡ Idle → seen' ≡ x ∷ [] → Turns n max x t seen'
  taken : (s : Slot) (v : Version) (y z : Lived) → numbered x.world.slots n ≡ Some s → is_stale x.world.store s ≡ true → batch s.version x.world.store max ≡ Some v
      → Follows x y → Publishes n v y t z → Follows y z → seen' ≡ z ∷ [] → Turns n max x t seen'
