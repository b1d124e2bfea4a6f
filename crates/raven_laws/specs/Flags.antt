-- What the laws claim of the flags in replies.
use Rattle.std.specs.Prelude.{◌≡◌, ℕ, List, [], ◌∷◌, Bool, true, false, if◌then◌else◌, Option, Some, None, ◌↔◌, map}
use Rattle.spec_store.specs.Stale.{Unseen}
use Rattle.spec_query.specs.Query as query
use Rattle.spec_query.specs.Query.{is_whole}
use Rattle.spec_index.specs.World.{Slot, World, reads, serving}
use Rattle.spec_server.specs.Replies.{Reply, Listing, QueryAnswer, Found, Answer}
use Rattle.spec_server.specs.Replies as replies
use Rattle.spec_server.specs.Requests.{Line, Do, Find, Ask, Mask, Stale, Indexes, Keeping, takes_all}
use Rattle.spec_server.specs.Courses.{Machine}
use Rattle.spec_server.specs.Machine.{step}
use Rattle.spec_server.specs.Several.{parts_of}
use Rattle.spec_server.specs.Sound.{Has}
use Rattle.raven_laws.specs.Queries.{AsksIndex, FitsIndex}

-- a flag that a reply shows: of the index of this name, up to this cutoff
pub record Flag : Type 0 where
  pub index : List ℕ
  pub cutoff : Option ℕ
  pub is_stale : Bool

abbrev pub flag : List ℕ → Option ℕ → Bool → Flag
flag index cutoff is_stale = record { index = index; cutoff = cutoff; is_stale = is_stale }

abbrev pub listed_flag : Listing → Flag
listed_flag l = flag l.name None l.is_stale

-- a whole collection is answered by no index
abbrev pub answer_flags : query.Ask → QueryAnswer → List Flag
answer_flags ask answer = if is_whole ask.query then [] else flag answer.index_name ask.cutoff answer.is_stale ∷ []

-- all flags of one index that the reply to a line shows
abbrev pub flags_in : Line → Reply → List Flag
flags_in (Do (Find index field words)) (Found ids etag is_stale) = flag index None is_stale ∷ []
flags_in (Do (Ask ask)) (Answer answer) = answer_flags ask answer
flags_in (Do (Stale name cutoff)) (replies.Stale etag is_stale newest) = flag name cutoff is_stale ∷ []
flags_in (Do Indexes) (replies.Indexes listings) = map listed_flag listings
flags_in other reply = []

-- An index serves the name, and the flag is true exactly if the store has a row that the index reads and has not seen, no newer than the cutoff.
pub record FlagIsExact (M : Machine) (f : Flag) : Type 0 where
  pub slot : Slot
  pub serves : serving M.world.slots f.index ≡ Some slot
  pub stale : (f.is_stale ≡ true) ↔ Unseen M.world.store (reads slot.version) slot.version.etag f.cutoff
  pub fresh : (f.is_stale ≡ false) ↔ (Unseen M.world.store (reads slot.version) slot.version.etag f.cutoff → ⊥)

-- the store has a row that one of the parts of this index of several maps reads and has not seen, no newer than the cutoff
abbrev pub IsOneUnseen : World → List ℕ → Option ℕ → Type 0
IsOneUnseen W name cutoff = (s : Slot) × Has (parts_of W name) s × Unseen W.store (reads s.version) s.version.etag cutoff

-- the reply to the line shows a flag of this index, up to this cutoff
abbrev pub ShowsFlag : Machine → Line → List ℕ → Option ℕ → Type 0
ShowsFlag M line index cutoff = (is_stale : Bool) × Has (flags_in line (step M takes_all 0 line).reply) (flag index cutoff is_stale)

-- Each flag that a reply shows is exact in the state after the line, and each question about an index shows one, unless it is refused. Only a query
-- that makes its index changes the state and shows a flag. The flag of an index of several maps is true exactly if one of its parts is stale.
pub record FlagsAreExact (M : Machine) : Type 0 where
  pub exact : (k : Keeping) (now : ℕ) (line : Line) (f : Flag) → Has (flags_in line (step M k now line).reply) f → FlagIsExact (step M k now line).machine f
  pub several : (k : Keeping) (now : ℕ) (ask : query.Ask) (answer : QueryAnswer) → (step M k now (Do (Mask ask))).reply ≡ Answer answer
      → (answer.is_stale ≡ true) ↔ IsOneUnseen M.world answer.index_name ask.cutoff
  pub find : (index field words : List ℕ) (s : Slot) → serving M.world.slots index ≡ Some s → ShowsFlag M (Do (Find index field words)) index None
  pub asked : (ask : query.Ask) (s : Slot) → AsksIndex M.world ask s → FitsIndex ask s → ShowsFlag M (Do (Ask ask)) s.name ask.cutoff
  pub cutoff : (name : List ℕ) (cutoff : Option ℕ) (s : Slot) → serving M.world.slots name ≡ Some s → ShowsFlag M (Do (Stale name cutoff)) name cutoff
  pub listed : (s : Slot) → Has M.world.slots s → ShowsFlag M (Do Indexes) s.name None
