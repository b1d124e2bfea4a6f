-- What opens from the rows of a database is that database again.
use Rattle.std.specs.Prelude.{◌≡◌, List, [], Ok}
use Rattle.spec_data.specs.Folding.{folded}
use Rattle.spec_data.specs.Kept.{all_kept}
use Rattle.spec_store.specs.Commit.{Setting}
use Rattle.spec_store.specs.Store.{store_of}
use Rattle.spec_server.specs.Courses.{Machine}
use Rattle.spec_server.specs.Sound.{Has}
use Rattle.spec_index.specs.World.{Slot, World, new_version}
use Rattle.index_lang.specs.Openings.{IsOpened}

-- the slots have one with the name and the definition of s, whose number is the etag of s's row, and which has recorded nothing yet
pub record IsThereAgain (slots : List Slot) (s : Slot) : Type 0 where
  pub slot : Slot
  pub there : Has slots slot
  pub named : folded slot.name ≡ folded s.name
  pub numbered : slot.number ≡ s.row
  pub anew : slot.version ≡ new_version s.version.definition

-- the opened slot s belongs to one that was there: the same name and definition, its row's etag, and nothing recorded yet
pub record WasThere (slots : List Slot) (s : Slot) : Type 0 where
  pub slot : Slot
  pub there : Has slots slot
  pub named : folded s.name ≡ folded slot.name
  pub numbered : s.number ≡ slot.row
  pub anew : s.version ≡ new_version slot.version.definition

-- the stored rows of the world open a machine with the same rows, of which nothing counts as cleaned, with an index for each that there was, and with
-- no other
pub record OpensAgain (s : Setting) (W : World) : Type 0 where
  pub machine : Machine
  pub opens : IsOpened s (all_kept W.store.rows) (Ok machine)
  pub store : machine.world.store ≡ store_of W.store.rows
  pub setting : machine.world.setting ≡ s
  pub notes : machine.world.notes ≡ []
  pub indexes : (x : Slot) → Has W.slots x → IsThereAgain machine.world.slots x
  pub no_more : (x : Slot) → Has machine.world.slots x → WasThere W.slots x
