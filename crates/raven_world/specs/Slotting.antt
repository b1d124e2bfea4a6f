-- What a commit of the server leaves of a change of the indexes, and why the indexes are not changed.
use Rattle.std.specs.Prelude.{◌≡◌, ℕ, List, Option, Some, None, Result, Ok, Err}
use Rattle.spec_store.specs.Commit.{Command, Refused, Server, Written, after_commands, commit}
use Rattle.spec_store.specs.Store.{last}
use Rattle.spec_index.specs.World as is
use Rattle.spec_server.specs.Writes.{write_refused}
use Rattle.spec_server.specs.Indexing.{slot_refused}
use Rattle.spec_server.specs.Replies.{Reply}
use Rattle.raven_reply.specs.ReplyView.{reply_view}
use Rattle.side_by_side.specs.Changes.{change_view}
use Rattle.side_by_side.specs.Standing.{Standing, world_of}
use Rattle.side_by_side.specs.declared.change.SlotChange.{SlotChange}
use Rattle.side_by_side.specs.declared.change.SlotRefusal.{SlotRefusal}
use Rattle.side_by_side.specs.declared.change.SlotRefusal.TheVariants as refusal
use Rattle.raven_world.specs.Roomy.{NumbersUpTo}
use Rattle.raven_world.specs.declared.world.Rewritten.{Rewritten}
use Rattle.raven_world.specs.declared.world.WorldFault.{WorldFault}
use Rattle.raven_world.specs.declared.world.WorldFault.TheVariants.{Refused as Refuse, NoMemory}

-- a change of the indexes to these, by these commands
abbrev pub change_to : Standing → List Command → List ℕ → is.SlotChange
change_to standing commands name = record { slots = standing.slots; notes = standing.notes; commands = commands; name = name }

-- no index has a number past the last etag that the store has after these commands
abbrev pub HasNumbers : is.World → ℕ → List Command → List is.Slot → Type 0
HasNumbers W now commands slots = NumbersUpTo (last (after_commands now commands W.store)) slots

-- the server's commands are taken, and the world has their rows and these indexes
pub record IsRewritten (W : is.World) (now : ℕ) (standing : Standing) (commands : List Command) (r : Rewritten) : Type 0 where
  pub written : Written
  pub cause : commit W.setting Server now commands W.store ≡ Ok written
  pub rows : r.rows ≡ written.rows
  pub world : r.world ≡ world_of W.setting written.store standing

-- the server's commands are refused, with this reply
pub record AreRefused (W : is.World) (now : ℕ) (commands : List Command) (reply : Reply) : Type 0 where
  pub refused : Refused
  pub cause : commit W.setting Server now commands W.store ≡ Err refused
  pub told : reply ≡ write_refused refused

abbrev pub Rewrites : is.World → ℕ → Standing → List Command → Result Rewritten WorldFault → Type 0
Rewrites W now standing commands (Ok r) = IsRewritten W now standing commands r
Rewrites W now standing commands (Err (Refuse reply)) = AreRefused W now commands (reply_view reply)
Rewrites W now standing commands (Err NoMemory) = Unit {0}

-- why the indexes are not changed; nothing if no memory was found
abbrev pub refusal_view : SlotRefusal → Option is.SlotRefusal
refusal_view refusal.NoIndex = Some is.NoIndex
refusal_view refusal.TooManyIndexes = Some is.TooManyIndexes
refusal_view (refusal.NotFresh index_etag newest) = Some (is.NotFresh index_etag newest)
refusal_view refusal.NoReplacement = Some is.NoReplacement
refusal_view refusal.NotesFull = Some is.NotesFull
refusal_view refusal.ReservedName = Some is.ReservedName
refusal_view (refusal.NameTooLong len) = Some (is.NameTooLong len)
refusal_view refusal.NoMemory = None

-- this change of the indexes is refused, with this reply for the name
pub record IsSlotRefusal (name : List ℕ) (change : Result is.SlotChange is.SlotRefusal) (reply : Reply) : Type 0 where
  pub refusal : is.SlotRefusal
  pub cause : change ≡ Err refusal
  pub told : reply ≡ slot_refused name refusal

-- the indexes are changed so, or are not
abbrev pub Reslots : List ℕ → Result is.SlotChange is.SlotRefusal → Result SlotChange WorldFault → Type 0
Reslots name change (Ok c) = Ok (change_view c) ≡ change
Reslots name change (Err (Refuse reply)) = IsSlotRefusal name change (reply_view reply)
Reslots name change (Err NoMemory) = Unit {0}
