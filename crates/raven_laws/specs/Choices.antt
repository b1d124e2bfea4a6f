-- Which automatic index is chosen, and which name a new one gets, by what they are.
use Rattle.std.specs.Prelude.{◌≡◌, ℕ, ◌<◌, ◌≤◌, List, [], ◌∷◌, ◌++◌, Bool, true, false, Some, None, codes, is_some, length, sum_by, ◌⊎◌}
use Rattle.std.specs.Fmt.{decimal}
use Rattle.index_tree.specs.Definitions.{Definition}
use Rattle.spec_store.specs.Commit.{AnyVector, Put}
use Rattle.spec_store.specs.Store.{Store}
use Rattle.std.specs.declared.cmp.Ordering.TheVariants.{Less}
use Rattle.spec_data.specs.Members.{Path}
use Rattle.index_tree.specs.Mapper.{joined}
use Rattle.spec_index.specs.Optimiser.{Choice, Make, Shape, Use, covers, definition_of, is_alike, is_fresh, is_retired, path_order, slot_shape, width}
use Rattle.spec_index.specs.World.{Slot, index_id, row_body, serving}
use Rattle.spec_server.specs.Requests.{Auto, Keeping, Do}
use Rattle.spec_server.specs.Courses.{Machine, Replied, same_machine}
use Rattle.spec_server.specs.Indexing.{made_name, one_field}
use Rattle.spec_server.specs.Machine.{step}
use Rattle.spec_server.specs.Replies.{Reply}
use Rattle.spec_server.specs.Sound.{Has}
use Rattle.raven_laws.specs.Definitions.{IsNewIndex, IsRowRefused}
use Rattle.raven_laws.specs.Writes.{IsKeeperFault}

-- fresh before stale, then fewer fields before more, then the smaller number
abbrev pub Before : Bool → Bool → ℕ → ℕ → ℕ → ℕ → Type 0
Before fresh other_fresh fields other_fields number other_number =
    ((fresh ≡ true) × (other_fresh ≡ false))
    ⊎ ((fresh ≡ other_fresh) × ((fields < other_fields) ⊎ ((fields ≡ other_fields) × (number < other_number))))

abbrev pub IsBefore : Store → Slot → Slot → Type 0
IsBefore S a b = Before (is_fresh S a) (is_fresh S b) (width a) (width b) a.number b.number

-- an index of shape a answers a query of shape b: the collection and the groups are the same, and it has all fields
pub record Covers (a b : Shape) : Type 0 where
  pub collection : a.collection ≡ b.collection
  pub grouped : a.grouped ≡ b.grouped
  pub groups : a.groups ≡ b.groups
  pub fields : (p : Path) → Has b.fields p → Has a.fields p

-- of the automatic indexes that cover the shape, the one before all others
pub record IsBest (S : Store) (slots : List Slot) (shape : Shape) (s : Slot) : Type 0 where
  pub has : Has slots s
  pub covers_it : covers (slot_shape s) shape ≡ true
  pub first : (t : Slot) → Has slots t → covers (slot_shape t) shape ≡ true → (s ≡ t) ⊎ IsBefore S s t

-- WHAT A NEW INDEX TAKES IN

-- each path comes before the next in the order of paths
abbrev pub AreInOrder : List Path → Type 0
AreInOrder [] = Unit {0}
AreInOrder (p ∷ []) = Unit {0}
AreInOrder (p ∷ q ∷ more) = (path_order p q ≡ Less) × AreInOrder (q ∷ more)

-- the slot has an automatic index of the collection and the groups of the shape, with this field
pub record HasAlike (slots : List Slot) (shape : Shape) (p : Path) : Type 0 where
  pub slot : Slot
  pub there : Has slots slot
  pub own : Shape
  pub its : slot_shape slot ≡ Some own
  pub alike : is_alike own shape ≡ true
  pub field : Has own.fields p

-- the fields of the shape and of all automatic indexes of its collection and groups, in order and each once
pub record IsUnion (slots : List Slot) (shape : Shape) (fields : List Path) : Type 0 where
  pub ordered : AreInOrder fields
  pub each : (p : Path) → Has fields p → Has shape.fields p ⊎ HasAlike slots shape p
  pub all : (p : Path) → Has shape.fields p ⊎ HasAlike slots shape p → Has fields p

-- more fields, or more bytes in their names together, than an index may have
abbrev pub IsTooWide : List Path → Type 0
IsTooWide fields = (64 < length fields) ⊎ (65536 < sum_by (λ p. length (joined p)) fields)

-- the shape with the union as its fields or, if that is too wide, the shape itself
pub record IsWidened (slots : List Slot) (shape made : Shape) : Type 0 where
  pub collection : made.collection ≡ shape.collection
  pub grouped : made.grouped ≡ shape.grouped
  pub groups : made.groups ≡ shape.groups
  pub union : List Path
  pub is_union : IsUnion slots shape union
  pub fields : (IsTooWide union × (made.fields ≡ shape.fields)) ⊎ ((IsTooWide union → ⊥) × (made.fields ≡ union))

-- the best index that covers the shape; or, if none does, a new one that takes in the fields of the others
abbrev pub IsChosen : Store → List Slot → Shape → Choice → Type 0
IsChosen S slots shape (Use s) = IsBest S slots shape s
IsChosen S slots shape (Make made) = ((t : Slot) → Has slots t → covers (slot_shape t) shape ≡ false) × IsWidened slots shape made

-- RETIREMENT

-- The index t, which is not retired, answers all that s answers. It has more fields, is no further back, and so is fresh if s is.
pub record IsOutdone (S : Store) (slots : List Slot) (s t : Slot) : Type 0 where
  pub has : Has slots t
  pub stays : is_retired slots t ≡ false
  pub covers_all : (shape : Shape) → covers (slot_shape s) shape ≡ true → covers (slot_shape t) shape ≡ true
  pub wider : width s < width t
  pub ahead : s.version.etag ≤ t.version.etag
  pub fresh : is_fresh S s ≡ true → is_fresh S t ≡ true

-- WHAT AUTO DOES

-- there are as many indexes as there may be: the reply is TooManyIndexes, and nothing changes
pub record IsFull (M : Machine) (replied : Replied) : Type 0 where
  pub full : M.world.setting.max_slots ≤ length M.world.slots
  pub reply : replied ≡ same_machine M Reply.TooManyIndexes

abbrev pub IsMakeAnswer : Machine → Keeping → ℕ → List ℕ → Definition → Replied → Type 0
IsMakeAnswer M k now name d replied =
    IsFull M replied
    ⊎ (IsRowRefused M now (Put (index_id name) AnyVector (row_body d) ∷ []) replied
    ⊎ (IsKeeperFault M k replied ⊎ IsNewIndex M k now name d replied))

-- the reply names the index that is used, and nothing changes; or a new one is made
abbrev pub FollowsChoice : Machine → Keeping → ℕ → Replied → Choice → Type 0
FollowsChoice M k now replied (Use s) = replied ≡ same_machine M (Reply.Index s.name)
FollowsChoice M k now replied (Make shape) =
    IsMakeAnswer M k now (made_name M.world shape) (definition_of shape) replied

pub record AutoIsAnswered (M : Machine) (k : Keeping) (now : ℕ) (collection field : List ℕ) : Type 0 where
  pub choice : Choice
  pub chosen : IsChosen M.world.store M.world.slots (one_field collection field) choice
  pub follows : FollowsChoice M k now (step M k now (Do (Auto collection field))) choice

-- NAMES

abbrev pub numbered_name : List ℕ → ℕ → List ℕ
numbered_name name n = name ++ (codes "/" ++ decimal n)

abbrev pub IsUsed : List Slot → List ℕ → Type 0
IsUsed slots name = is_some (serving slots name) ≡ true

-- the name with a number from 2 on behind it, of which each smaller one is used
pub record IsNumberedName (slots : List Slot) (name found : List ℕ) : Type 0 where
  pub number : ℕ
  pub least : 2 ≤ number
  pub spelled : found ≡ numbered_name name number
  pub smaller : (m : ℕ) → 2 ≤ m → m < number → IsUsed slots (numbered_name name m)

-- the name itself if no index has it, and otherwise with the least number that is free
abbrev pub IsFirstFree : List Slot → List ℕ → List ℕ → Type 0
IsFirstFree slots name found = ((found ≡ name) × (serving slots name ≡ None)) ⊎ (IsUsed slots name × IsNumberedName slots name found)
