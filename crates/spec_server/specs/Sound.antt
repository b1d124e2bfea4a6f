-- What holds of every world, and between a world and a later one.
use Rattle.std.specs.Prelude.{◌≡◌, ℕ, ◌≤◌, ◌<◌, List, [], ◌∷◌, ◌++◌, true, false, length, Some, ◌⊎◌, IsTrue, codes}
use Rattle.spec_data.specs.Faults.{replacement_of}
use Rattle.spec_data.specs.Folding.{folded}
use Rattle.spec_data.specs.Limits.{max_etag}
use Rattle.spec_data.specs.Rows.{Row, Body, doc, is_document}
use Rattle.index_tree.specs.Definitions.{Definition}
use Rattle.spec_index.specs.Reduces.{has_quotient}
use Rattle.spec_store.specs.Store.{row_at, Store, last, IsStore}
use Rattle.spec_store.specs.Later.{Later}
use Rattle.spec_index.specs.Index.{Agrees}
pub use Rattle.spec_index.specs.World.{NumbersRise}
use Rattle.spec_index.specs.World.{Version, Slot, Note, World, reads, index_id, first_body, row_body, is_automatic, begins_with_auto, begins_with_replacement, is_reserved_name, replaced_name}
use Rattle.spec_store.specs.Commit.{stored_body}
use Rattle.spec_server.specs.Courses.{Held, Machine}

-- the list has the element
abbrev pub Has : {X : Type 0} → List X → X → Type 0
Has [] x = ⊥
Has (y ∷ ys) x = (y ≡ x) ⊎ Has ys x

-- the version agrees with the store up to its etag, which is not past the store's last
pub record Fits (S : Store) (v : Version) : Type 0 where
  pub agrees : Agrees (reads v) v.table S v.etag
  pub within : v.etag ≤ last S

-- no two slots have the same folded name
abbrev pub NamesApart : List Slot → Type 0
NamesApart slots = (s t : Slot) → Has slots s → Has slots t → folded s.name ≡ folded t.name → s ≡ t

-- the slot that s is to replace is there: s has its name behind `ReplacementOf/`, and a client gave it that name
pub record IsBeside (slots : List Slot) (s : Slot) : Type 0 where
  pub slot : Slot
  pub there : Has slots slot
  pub named : folded s.name ≡ folded (replacement_of slot.name)
  pub given : is_reserved_name slot.name ≡ false

-- each replacement stands beside the slot that it is to replace
abbrev pub HaveTheirSlots : List Slot → Type 0
HaveTheirSlots slots = (s : Slot) → Has slots s → begins_with_replacement s.name ≡ true → IsBeside slots s

-- the body is one of the definition: as it is written, or of the first version, in which there are no quotients
pub data IsBodyOf (d : Definition) (b : Body) : Type 0 where
  second : b ≡ doc (stored_body (row_body d)) → IsBodyOf d b
  first : b ≡ doc (stored_body (first_body d)) → has_quotient d ≡ false → IsBodyOf d b

-- the store has the row of the slot's definition, under the etag that the slot states
pub record IsListed (S : Store) (s : Slot) : Type 0 where
  pub row : Row
  pub found : row_at (folded (index_id s.name)) S.rows ≡ Some row
  pub etag : row.etag ≡ s.row
  pub collection : row.collection ≡ codes "@indexes"
  pub body : IsBodyOf s.version.definition row.body

-- each slot has its row, and each live row of `@indexes` is that of a slot
pub record AreListed (S : Store) (slots : List Slot) : Type 0 where
  pub each : (s : Slot) → Has slots s → IsListed S s
  pub only : (q : List ℕ) (r : Row) → row_at q S.rows ≡ Some r → IsTrue (is_document r) → r.collection ≡ codes "@indexes" → (s : Slot) × Has slots s × (q ≡ folded (index_id s.name))

-- no more rows, slots and notes than the setting allows, and no etag past the greatest
pub record IsWithinLimits (W : World) : Type 0 where
  pub rows : length W.store.rows ≤ W.setting.max_rows
  pub slots : length W.slots ≤ W.setting.max_slots
  pub notes : length W.notes ≤ W.setting.max_notes
  pub etags : last W.store ≤ max_etag

-- The invariants of a world. By its name one sees whether an index is automatic, and whether it is a replacement.
pub record Sound (W : World) : Type 0 where
  pub store : IsStore W.store
  pub fits : (s : Slot) → Has W.slots s → Fits W.store s.version
  pub numbers : (s : Slot) → Has W.slots s → s.number ≤ last W.store
  pub rising : NumbersRise 0 W.slots
  pub apart : NamesApart W.slots
  pub kinds : (s : Slot) → Has W.slots s → is_automatic s.version.definition ≡ begins_with_auto s.name
  pub beside : HaveTheirSlots W.slots
  pub listed : AreListed W.store W.slots
  pub notes : (n : Note) → Has W.notes n → (n.newest ≤ n.index_etag) × (n.etag ≤ last W.store)
  pub limits : IsWithinLimits W

-- the version still agrees with the store up to its etag, unless more was cleaned since it was read, and past that etag
pub record StillFits (S : Store) (v : Version) : Type 0 where
  pub agrees : (S.cleaned ≤ v.cleaned) ⊎ (S.cleaned ≤ v.etag) → Agrees (reads v) v.table S v.etag
  pub within : v.etag ≤ last S

-- A batch that a worker holds may be published: its version still fits the store, which was cleaned no less than the one that it read, its number was
-- given to an index, and if that index is still there its definition is that of the version.
pub record IsHeld (W : World) (h : Held) : Type 0 where
  pub fits : StillFits W.store h.version
  pub since : h.version.cleaned ≤ W.store.cleaned
  pub within : h.number ≤ last W.store
  pub same : (s : Slot) → Has W.slots s → s.number ≡ h.number → s.version.definition ≡ h.version.definition

-- the invariants of a machine
pub record IsMachine (M : Machine) : Type 0 where
  pub world : Sound M.world
  pub held : (h : Held) → Has M.held h → IsHeld M.world h

-- s is the earlier slot w: the same number and definition, and an etag that is no less. Its name is the same, unless a replacement took that of its index.
pub record Continues (w s : Slot) : Type 0 where
  pub number : w.number ≡ s.number
  pub definition : w.version.definition ≡ s.version.definition
  pub onward : w.version.etag ≤ s.version.etag
  pub named : folded (replaced_name w.name) ≡ folded (replaced_name s.name)

-- the slot continues one of W, or is new
abbrev pub IsOldOrNew : World → Slot → Type 0
IsOldOrNew W s = ((w : Slot) × Has W.slots w × Continues w s) ⊎ (last W.store < s.number)

-- the slot had its name in W, or its number is new, or a note records the switch that gave it the name
abbrev pub HasItsName : World → List Note → Slot → Type 0
HasItsName W notes s =
    ((w : Slot) × Has W.slots w × (w.number ≡ s.number) × (folded w.name ≡ folded s.name))
    ⊎ (last W.store < s.number)
    ⊎ ((n : Note) × Has notes n × (folded n.name ≡ folded s.name) × (n.new ≡ s.number))

-- N is later than W: so is its store, notes are only added, and each slot continues one of W or is new
pub record LaterW (W N : World) : Type 0 where
  pub store : Later W.store N.store
  pub setting : N.setting ≡ W.setting
  pub noted : List Note
  pub notes : N.notes ≡ W.notes ++ noted
  pub numbers : (s : Slot) → Has N.slots s → IsOldOrNew W s
  pub names : (s : Slot) → Has N.slots s → HasItsName W noted s
