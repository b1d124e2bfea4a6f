-- What each change of a request is: one of four kinds. What holds of the kinds holds of every change, whatever requests there are.
use Rattle.std.proofs.Common.{◌≡◌, ℕ, ◌≤◌, List, [], ◌∷◌, Bool, true, false, cond, ◌++◌, ◌+◌, length, Option, Some, None, Result, Ok, Err, refl, sym, ap, ◌∙◌, subst, map, arith, ◌⊎◌, inl, inr}
use Rattle.index_tree.specs.Definitions.{Definition}
use Rattle.spec_store.specs.Store.{Store, last}
use Rattle.spec_store.specs.Cleaning.{old_tombstones}
use Rattle.spec_store.specs.Commit.{Client, Refused, Server, Written, commit}
use Rattle.spec_query.specs.Query as query
use Rattle.spec_index.specs.Cleaning.{clean_upto, cleaned_world}
use Rattle.spec_index.specs.Optimiser.{Choice, Make, Shape, Use, pick, retirement}
use Rattle.spec_index.specs.World.{Slot, SlotChange, SlotRefusal, World, define_named, is_named, remove, serving, switch}
use Rattle.spec_server.specs.Asking.{Answered, MustMake, Ready, answer_ask}
use Rattle.spec_server.specs.Replies as replies
use Rattle.spec_server.specs.Requests.{Ask, Auto, Bulk, Clean, Define, Delete, Multi, Pump, Put, Remove, Request, Switch, Tidy, commands_in, makes_several}
use Rattle.spec_server.specs.Courses.{Change, Course, changed, cleaning, in_world, storing, with_slots}
use Rattle.spec_server.specs.Writes.{single_reply, write, wrote}
use Rattle.spec_server.specs.Indexing.{answer_made, answer_making, ask_course, change_of_slots, define_parts, define_then, made_name, make, one_field, replaced_names, retire, rewrote, switch_and, tidied, tidy, try_switch, use_or_make}
use Rattle.spec_server.specs.Batches.{after_batch, pump_at, pump_for}
use Rattle.spec_server.specs.Machine.{course_of}
use Rattle.spec_server.specs.Sound.{Has}

-- KINDS

-- the request makes an index of this shape
pub data Makes (r : Request) (W : World) (shape : Shape) : Type 0 where
  for_auto : (collection field : List ℕ) → r ≡ Auto collection field → pick (one_field collection field) W.store W.slots ≡ Make shape → Makes r W shape
  for_ask : (ask : query.Ask) → r ≡ Ask ask → answer_ask W ask ≡ MustMake shape → Makes r W shape

-- the request asks for this definition of an index, alone or as one of several
pub data Defines (r : Request) (name : List ℕ) (d : Definition) : Type 0 where
  alone : r ≡ Define name d → Defines r name d
  among : (parts : List (List ℕ × Definition)) → r ≡ Multi parts → Has parts (name, d) → Defines r name d

-- how the request changes the indexes
pub data IsReslot (r : Request) (W : World) (c : SlotChange) : Type 0 where
  defined : (name : List ℕ) (d : Definition) → Defines r name d → define_named W name d ≡ Ok c → IsReslot r W c
  made : (shape : Shape) → Makes r W shape → make W shape ≡ Ok c → IsReslot r W c
  removed : (name : List ℕ) → r ≡ Remove name → remove W name ≡ Ok c → IsReslot r W c
  switched : (name : List ℕ) → (r ≡ Switch name) ⊎ (r ≡ Tidy) → switch W name ≡ Ok c → IsReslot r W c
  retires : r ≡ Tidy → c ≡ retirement W → IsReslot r W c

-- the indexes change, and their rows are written
pub record Reslots (now : ℕ) (r : Request) (W : World) (c : Change) : Type 0 where
  pub slots : SlotChange
  pub written : Written
  pub by : IsReslot r W slots
  pub commits : commit W.setting Server now slots.commands W.store ≡ Ok written
  pub is : c ≡ storing written.rows (changed W written.store slots)

-- a slot reads a batch, if it is chosen
abbrev pub batch_if : Store → ℕ → (Slot → Bool) → Slot → Slot
batch_if S max chosen s = cond (chosen s) (after_batch S max s) s

abbrev pub advanced_by : World → ℕ → (Slot → Bool) → World
advanced_by W max chosen = with_slots W (map (batch_if W.store max chosen) W.slots)

-- What a change is: a client's commands are written; or the indexes change with their rows; or some catch up, without rows; or it is a cleaning.
pub data IsAct (now : ℕ) (r : Request) (W : World) (c : Change) : Type 0 where
  writes : (w : Written) → commit W.setting Client now (commands_in r) W.store ≡ Ok w → c ≡ storing w.rows (in_world W w.store W.slots) → IsAct now r W c
  reslots : Reslots now r W c → IsAct now r W c
  advances : (max : ℕ) (chosen : Slot → Bool) → c ≡ storing [] (advanced_by W max chosen) → IsAct now r W c
  cleans : r ≡ Clean → c ≡ cleaning (old_tombstones (clean_upto W) W.store.rows) (clean_upto W) (cleaned_world W) → IsAct now r W c

-- each of the changes does this to the world before it
abbrev pub AllDo : (World → Change → Type 0) → World → List Change → Type 0
AllDo P W [] = Unit {0}
AllDo P W (c ∷ more) = P W c × AllDo P c.world more

-- The changes of a request: none, or one, or those of a request that makes several, which change indexes one after another.
pub data AreActs (now : ℕ) (r : Request) (W : World) (changes : List Change) : Type 0 where
  none : changes ≡ [] → AreActs now r W changes
  one : (c : Change) → IsAct now r W c → changes ≡ c ∷ [] → AreActs now r W changes
  several : makes_several r ≡ true → AllDo (Reslots now r) W changes → AreActs now r W changes

-- WRITES

wrote-acts : (now : ℕ) (r : Request) (W : World) (reply : List replies.Result → replies.Reply) (o : Result Written Refused)
    → commit W.setting Client now (commands_in r) W.store ≡ o → AreActs now r W (wrote W reply now (commands_in r) o).changes
wrote-acts now r W reply (Err refused) is = none refl
wrote-acts now r W reply (Ok w) is = one _ (writes w is refl) refl

write-acts : (now : ℕ) (r : Request) (W : World) (reply : List replies.Result → replies.Reply) → AreActs now r W (write W reply now (commands_in r)).changes
write-acts now r W reply = wrote-acts now r W reply (commit W.setting Client now (commands_in r) W.store) refl

-- CHANGES OF INDEXES

rewrote-acts : (now : ℕ) (r : Request) (W : World) (reply : replies.Reply) (c : SlotChange) (o : Result Written Refused) → IsReslot r W c
    → commit W.setting Server now c.commands W.store ≡ o → AreActs now r W (rewrote W reply c o).changes
rewrote-acts now r W reply c (Err refused) by is = none refl
rewrote-acts now r W reply c (Ok w) by is = one _ (reslots (record { slots = c; written = w; by = by; commits = is; is = refl })) refl

reslotted-acts : (now : ℕ) (r : Request) (W : World) (reply : List ℕ → replies.Reply) (name : List ℕ) (s : Result SlotChange SlotRefusal)
    → ((c : SlotChange) → s ≡ Ok c → IsReslot r W c) → AreActs now r W (change_of_slots W now reply name s).changes
reslotted-acts now r W reply name (Err refusal) by = none refl
reslotted-acts now r W reply name (Ok c) by = rewrote-acts now r W (reply c.name) c (commit W.setting Server now c.commands W.store) (by c refl) refl

auto-acts : (now : ℕ) (r : Request) (W : World) (c : Choice) → ((shape : Shape) → c ≡ Make shape → Makes r W shape) → AreActs now r W (use_or_make W now c).changes
auto-acts now r W (Use s) by = none refl
auto-acts now r W (Make shape) by = reslotted-acts now r W replies.Index (made_name W shape) (make W shape) (λ c e. made shape (by shape refl) e)

-- a query makes the same changes as an AUTO for its shape
making-changes : (W : World) (now : ℕ) (ask : query.Ask) (name : List ℕ) (s : Result SlotChange SlotRefusal) → (answer_making W now ask name s).changes ≡ (change_of_slots W now replies.Index name s).changes
making-changes W now ask name (Err refusal) = refl
making-changes W now ask name (Ok c) = by (commit W.setting Server now c.commands W.store)
  where
    by : (o : Result Written Refused) → (answer_made W ask c o).changes ≡ (rewrote W (replies.Index c.name) c o).changes
    by (Err refused) = refl
    by (Ok w) = refl

ask-acts : (now : ℕ) (ask : query.Ask) (W : World) (a : Answered) → answer_ask W ask ≡ a → AreActs now (Ask ask) W (ask_course W now ask a).changes
ask-acts now ask W (Ready reply) is = none refl
ask-acts now ask W (MustMake shape) is = subst (AreActs now (Ask ask) W) (sym (making-changes W now ask (made_name W shape) (make W shape)))
    (reslotted-acts now (Ask ask) W replies.Index (made_name W shape) (make W shape) (λ c e. made shape (for_ask ask refl is) e))

-- each name that may be switched is switched, and then the retired indexes go
retire-acts : (now : ℕ) (W : World) (done : List (List ℕ)) → AllDo (Reslots now Tidy) W (retire W now done).changes
retire-acts now W done = by (commit W.setting Server now (retirement W).commands W.store) refl
  where
    by : (o : Result Written Refused) → commit W.setting Server now (retirement W).commands W.store ≡ o → AllDo (Reslots now Tidy) W (rewrote W (tidied W done) (retirement W) o).changes
    by (Err refused) e = tt
    by (Ok w) e = (record { slots = retirement W; written = w; by = retires refl refl; commits = e; is = refl }, tt)

switch-acts : (now : ℕ) (W : World) (name : List ℕ) (done : List (List ℕ)) (more : World → List (List ℕ) → Course)
    → ((V : World) (all : List (List ℕ)) → AllDo (Reslots now Tidy) V (more V all).changes)
    → (s : Result SlotChange SlotRefusal) → switch W name ≡ s → AllDo (Reslots now Tidy) W (try_switch W now done more s).changes
switch-acts now W name done more rest (Err refusal) e = rest W done
switch-acts now W name done more rest (Ok c) e = by (commit W.setting Server now c.commands W.store) refl
  where
    by : (o : Result Written Refused) → commit W.setting Server now c.commands W.store ≡ o
        → AllDo (Reslots now Tidy) W (switch_and W c (λ V. more V (done ++ c.name ∷ [])) o).changes
    by (Err refused) f = tt
    by (Ok w) f = (
      record { slots = c; written = w; by = switched name (inr refl) e; commits = f; is = refl },
      rest (changed W w.store c) (done ++ c.name ∷ []),
    )

pub tidy-acts : (now : ℕ) (names : List (List ℕ)) (W : World) (done : List (List ℕ)) → AllDo (Reslots now Tidy) W (tidy now names W done).changes
tidy-acts now [] W done = retire-acts now W done
tidy-acts now (name ∷ names) W done = switch-acts now W name done (λ V all. tidy now names V all) (λ V all. tidy-acts now names V all) (switch W name) refl

-- a part is defined, and what comes after it goes on
define-acts : (now : ℕ) (r : Request) (W : World) (name : List ℕ) (d : Definition) (more : World → List ℕ → Course) → Defines r name d
    → ((V : World) (given : List ℕ) → AllDo (Reslots now r) V (more V given).changes)
    → (s : Result SlotChange SlotRefusal) → define_named W name d ≡ s → AllDo (Reslots now r) W (define_then W now name more s).changes
define-acts now r W name d more is rest (Err refusal) e = tt
define-acts now r W name d more is rest (Ok c) e = by (commit W.setting Server now c.commands W.store) refl
  where
    by : (o : Result Written Refused) → commit W.setting Server now c.commands W.store ≡ o → AllDo (Reslots now r) W (switch_and W c (λ V. more V c.name) o).changes
    by (Err refused) f = tt
    by (Ok w) f = (record { slots = c; written = w; by = defined name d is e; commits = f; is = refl }, rest (changed W w.store c) c.name)

-- so one part after another
parts-acts : (now : ℕ) (r : Request) (parts : List (List ℕ × Definition)) (W : World) (names : List (List ℕ)) → ((p : List ℕ × Definition) → Has parts p → Defines r p.0 p.1)
    → AllDo (Reslots now r) W (define_parts now parts W names).changes
parts-acts now r [] W names all = tt
parts-acts now r (p ∷ parts) W names all =
    define-acts now r W p.0 p.1 (λ V name. define_parts now parts V (names ++ name ∷ [])) (all p (inl refl))
    (λ V name. parts-acts now r parts V (names ++ name ∷ []) (λ q at. all q (inr at))) (define_named W p.0 p.1) refl

-- BATCHES

pump-acts : (now : ℕ) (r : Request) (W : World) (max : ℕ) (index : Option (List ℕ)) → AreActs now r W (pump_for W max index).changes
pump-acts now r W max None = one _ (advances max (λ s. true) refl) refl
pump-acts now r W max (Some name) = by (serving W.slots name)
  where
    by : (there : Option Slot) → AreActs now r W (pump_at W max name there).changes
    by None = none refl
    by (Some s) = one _ (advances max (is_named name) refl) refl

-- REQUESTS

-- each change of a request is of one of the kinds; the requests that are not named here change nothing
pub course-acts : (W : World) (now : ℕ) (r : Request) → AreActs now r W (course_of W now r).changes
course-acts W now (Put id expected body) = write-acts now (Put id expected body) W single_reply
course-acts W now (Delete id expected) = write-acts now (Delete id expected) W single_reply
course-acts W now (Bulk commands) = write-acts now (Bulk commands) W replies.Bulk
course-acts W now (Define name d) = reslotted-acts now (Define name d) W replies.Index name (define_named W name d) (λ c e. defined name d (alone refl) e)
course-acts W now (Multi parts) = several refl (parts-acts now (Multi parts) parts W [] (λ p at. among parts refl at))
course-acts W now (Remove name) = reslotted-acts now (Remove name) W replies.Removed name (remove W name) (λ c e. removed name refl e)
course-acts W now (Auto collection field) =
    auto-acts now (Auto collection field) W (pick (one_field collection field) W.store W.slots) (λ shape e. for_auto collection field refl e)
course-acts W now (Ask ask) = ask-acts now ask W (answer_ask W ask) refl
course-acts W now (Pump max index) = pump-acts now (Pump max index) W max index
course-acts W now (Switch name) =
    reslotted-acts now (Switch name) W (replies.Switched (last W.store + 1)) name (switch W name) (λ c e. switched name (inl refl) e)
course-acts W now Tidy = several refl (tidy-acts now (replaced_names W) W [])
course-acts W now Clean = one _ (cleans refl refl) refl
course-acts W now other = none refl

-- so only some requests make more than one change
pub one-at-most : (W : World) (now : ℕ) (r : Request) → makes_several r ≡ false → length (course_of W now r).changes ≤ 1
one-at-most W now r other = elim (course-acts W now r) [
  | none e ↦ let n = ap length e in omega arith
  | one c act e ↦ let n = ap length e in omega arith
  | several is all ↦ absurd (let e = sym is ∙ other in cc)
]

-- ALL CHANGES

pub all-weaker : (P Q : World → Change → Type 0) → ((V : World) (c : Change) → P V c → Q V c) → (W : World) (changes : List Change) → AllDo P W changes → AllDo Q W changes
all-weaker P Q f W [] all = tt
all-weaker P Q f W (c ∷ more) all = (f W c all.0, all-weaker P Q f c.world more all.1)

-- the same of a fact that needs what the changes before it leave
pub all-along : (P Q : World → Change → Type 0) (I : World → Type 0) → ((V : World) (c : Change) → I V → P V c → Q V c × I c.world)
    → (W : World) (changes : List Change) → I W → AllDo P W changes → AllDo Q W changes
all-along P Q I f W [] i all = tt
all-along P Q I f W (c ∷ more) i all = let d = f W c i all.0 in (d.0, all-along P Q I f c.world more d.1 all.1)

-- each change of a request is an act
pub all-acts : (now : ℕ) (r : Request) (W : World) (changes : List Change) → AreActs now r W changes → AllDo (IsAct now r) W changes
all-acts now r W changes (none e) = subst (AllDo (IsAct now r) W) (sym e) tt
all-acts now r W changes (one c act e) = subst (AllDo (IsAct now r) W) (sym e) (act, tt)
all-acts now r W changes (several is all) = all-weaker (Reslots now r) (IsAct now r) (λ V c by. reslots by) W changes all

-- each of the changes leaves such a world
abbrev pub AllLeave : (World → Type 0) → List Change → Type 0
AllLeave P [] = Unit {0}
AllLeave P (c ∷ more) = P c.world × AllLeave P more

pub leave-weaker : (P Q : World → Type 0) → ((V : World) → P V → Q V) → (changes : List Change) → AllLeave P changes → AllLeave Q changes
leave-weaker P Q f [] all = tt
leave-weaker P Q f (c ∷ more) all = (f c.world all.0, leave-weaker P Q f more all.1)

pub all-leave : (P : World → Type 0) (W : World) (changes : List Change) → AllDo (λ V c. P c.world) W changes → AllLeave P changes
all-leave P W [] all = tt
all-leave P W (c ∷ more) all = (all.0, all-leave P c.world more all.1)

-- what each change does to the world before it, all of them do to the first one
pub chain : (R : World → World → Type 0) → ((W V X : World) → R W V → R V X → R W X) → (U W : World) → R U W → (changes : List Change) → AllDo (λ V c. R V c.world) W changes → AllLeave (R U) changes
chain R then U W r [] all = tt
chain R then U W r (c ∷ more) all = let next = then U W c.world r all.0 in (next, chain R then U c.world next more all.1)
