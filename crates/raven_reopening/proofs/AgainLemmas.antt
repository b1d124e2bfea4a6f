-- A world whose rows open again leaves such a world, whatever is asked.
use Rattle.std.proofs.Common.{◌≡◌, ℕ, ◌+◌, ◌<◌, List, [], ◌∷◌, Bool, true, false, not, ◌==◌, cond, nat_lt, nat_le, is_some, length, filter, map, Option, Some, None, Result, Ok, Err, refl, sym, ap, ◌∙◌, subst, arith}
use Rattle.std.proofs.lemmas.Bool.{eqb-true, ltb-false}
use Rattle.spec_data.specs.Faults.{replacement_of}
use Rattle.spec_data.specs.Moments.{moments_end}
use Rattle.spec_store.specs.Store.{Store, last}
use Rattle.spec_store.specs.Cleaning.{clean, is_old_tombstone}
use Rattle.index_tree.specs.Definitions.{Definition, same_definition}
use Rattle.spec_server.specs.Opening.{is_auto_name, is_static_name}
use Rattle.spec_store.specs.Commit.{Command, AnyVector, Client, Server, Written, commit}
use Rattle.spec_query.specs.Binding.{PlanRefusal, check}
use Rattle.spec_query.specs.Query.{Ask as AskOf, OfCollection, OfIndex, Origin, is_whole}
use Rattle.spec_index.specs.Optimiser.{Choice, Make, Use, Shape, best, chosen, covers, definition_of, is_retired, name_of, pick, retired, retirement, slot_shape}
use Rattle.spec_server.specs.Asking.{Answered, MustMake, Ready, answer_ask, answer_from_collection, answer_picked}
use Rattle.spec_server.specs.Asking.{unless_refused as answered_unless}
use Rattle.spec_server.specs.Shapes.{shape_asked}
use Rattle.spec_index.specs.Cleaning.{clean_upto}
use Rattle.spec_index.specs.World.{Slot, SlotChange, World, is_automatic, index_id, numbered, serving, SlotRefusal, added, added_if_room, added_to, define, define_at, define_beside, define_named, dropped, is_reserved_name, removed, switch, taken_out, unchanged, unless_refused, without}
use Rattle.spec_server.specs.Requests.{Request, Define, Multi, Line, Do, Read, Publish, IsFromClient, AreFromClients, Event, Keeping, commands_in}
use Rattle.spec_server.specs.Courses.{Machine, Change, Held, Course, changed, in_world, settled, with_slots}
use Rattle.spec_server.specs.Indexing.{made_name, make, one_field}
use Rattle.spec_server.specs.Workers.{Passed, Cleaned, PublishRefusal, put_in, was_cleaned, held_by, publish_by, publish_to, published, published_in, published_reply, with_version}
use Rattle.spec_server.specs.Machine.{after, course_of, run, step}
use Rattle.spec_server.specs.Sound.{Has, IsHeld, IsMachine, Sound}
use Rattle.raven_laws.proofs.Acts.{AllLeave, Defines, IsAct, IsReslot, Makes, advanced_by, all-acts, all-along, all-leave, course-acts}
use Rattle.raven_laws.proofs.MachineLemmas.{read-world, settled-leaves, step-Steps}
use Rattle.raven_laws.proofs.Moving.{Keeps, act-Moves}
use Rattle.raven_laws.proofs.QueryLemmas.{answer_by_origin}
use Rattle.spec_store.proofs.CleanLemmas.{clean-rows}
use Rattle.raven_laws.proofs.SlotLemmas.{Has-filter, Has-map, Has-without, find-Has, replacing-no-auto, served}
use Rattle.raven_laws.proofs.WorldLemmas.{found-Replaces, one_number, past_test, reserved-other, same_change, switch-Switches}
use Rattle.raven_reading.specs.Requests.{IsAsked, IsByText, AreCommands, IsIndexing, IsOrigin, IsValidLine}
use Rattle.raven_reading.proofs.Formed.{parts-formed}
use Rattle.raven_reopening.specs.Form.{AreEvents, IsKept}
use Rattle.raven_reopening.proofs.FitLemmas.{few_slots, given-static, name_of-auto, named-fit, static-fit}
use Rattle.raven_reopening.proofs.LastLemmas.{AllLast, AreServed, Stays, clients-Stay, deletes, puts, servers-Stay}
use Rattle.raven_reopening.proofs.RightLemmas.{AllRight, IsNew, IsRight, added-right, filter-right, kept-right, made-new, advanced-right, renamed-right, replacement-new, static-new}
use Rattle.raven_reopening.proofs.ShapeLemmas.{IsKeptShape, all-has, asked-kept, one-kept, widened-kept}

-- its rows can be read again, and those of its indexes are read as their definitions
pub record Again (W : World) : Type 0 where
  pub all : AllLast W.store.rows
  pub slots : AllRight W.slots

stays : (W : World) → Sound W → Again W → Stays W.store
stays W o a = record { all = a.all; etags = o.limits.etags }

-- WRITES OF CLIENTS

written-Again : (W : World) (now : ℕ) (commands : List Command) (w : Written) → commit W.setting Client now commands W.store ≡ Ok w
    → AreCommands commands → now < moments_end → Sound W → Again W → Again (in_world W w.store W.slots)
written-Again W now commands w is fits soon o a =
    record { slots = a.slots; all = (clients-Stay 0 W.setting now commands (record { store = W.store; rows = [] }) w is fits soon (stays W o a)).all }

-- CHANGES OF THE INDEXES

-- a change that leaves right slots, and writes definitions that can be stored under their names
pub record IsFitChange (c : SlotChange) : Type 0 where
  pub commands : AreServed c.commands
  pub slots : AllRight c.slots

changed-Again : (W : World) (now : ℕ) (c : SlotChange) (w : Written) → commit W.setting Server now c.commands W.store ≡ Ok w → IsFitChange c → now < moments_end → Sound W → Again W → Again (changed W w.store c)
changed-Again W now c w is fit soon o a = record {
  slots = fit.slots;
  all = (servers-Stay 0 W.setting now c.commands (record { store = W.store; rows = [] }) w is fit.commands soon (stays W o a)).all;
}

-- NEW INDEXES

unchanged-fit : (W : World) (name : List ℕ) → Again W → IsFitChange (unchanged W name)
unchanged-fit W name a = record { commands = tt; slots = a.slots }

added-fit : (W : World) (slots : List Slot) (name : List ℕ) (d : Definition) → IsNew name d → AllRight slots → IsFitChange (added_to W slots name d)
added-fit W slots name d new right = record { commands = (puts name d new.body (named-fit d name new.named), tt); slots = added-right W slots name d new right }

without-right : (W : World) (n : ℕ) → Again W → AllRight (without n W.slots)
without-right W n a = filter-right (λ x. not (x.number == n)) W.slots a.slots

-- the name of a new index is valid
new-name : (W : World) (shape : Shape) → Sound W → is_auto_name (name_of W.slots (last W.store + 1) shape) ≡ true
new-name W shape o =
    let few = few_slots 0 (last W.store) W.slots (omega arith) o.rising o.numbers in
    let most = o.limits.etags in
    name_of-auto W.slots (last W.store + 1) shape (omega arith) (omega arith)

all-kept : (W : World) → Again W → (s : Slot) → Has W.slots s → IsKept s.version.definition
all-kept W a s h = (a.slots s h).kept

-- an index of a shape whose paths can be kept
made-fit : (W : World) (shape : Shape) (c : SlotChange) → IsKeptShape shape → Sound W → Again W → make W shape ≡ Ok c → IsFitChange c
made-fit W shape c k o a e = by (made_name W shape) (definition_of shape) (made-new (made_name W shape) shape k (new-name W shape o)) e
  where
    by : (name : List ℕ) (d : Definition) → IsNew name d → define W name d ≡ Ok c → IsFitChange c
    by name d new e =
        let room = past_test (nat_le W.setting.max_slots (length W.slots)) SlotRefusal.TooManyIndexes (cond (is_some (serving W.slots name)) (Err SlotRefusal.NameServes) (Ok (added W name d))) c e in
        let free = past_test (is_some (serving W.slots name)) SlotRefusal.NameServes (Ok (added W name d)) c room.1 in
        subst IsFitChange (same_change (added W name d) c free.1) (added-fit W W.slots name d new a.slots)

-- a choice of an index that must be made has paths that can be kept
abbrev MakesChoice : Choice → Type 0
MakesChoice (Use s) = Unit {0}
MakesChoice (Make shape) = IsKeptShape shape

chosen-kept : (W : World) (shape : Shape) (found : Option Slot) → IsKeptShape shape → Again W → MakesChoice (chosen shape W.slots found)
chosen-kept W shape (Some s) k a = tt
chosen-kept W shape None k a = widened-kept shape W.slots (all-kept W a) k

-- QUERIES

-- an index that must be made has paths that can be kept
abbrev MakesKept : Answered → Type 0
MakesKept (Ready reply) = Unit {0}
MakesKept (MustMake shape) = IsKeptShape shape

picked-kept : (W : World) (ask : AskOf) (shape : Shape) (found : Option Slot) → IsKeptShape shape → Again W → MakesKept (answer_picked W ask (chosen shape W.slots found))
picked-kept W ask shape (Some s) k a = tt
picked-kept W ask shape None k a = widened-kept shape W.slots (all-kept W a) k

origin-kept : (W : World) (ask : AskOf) (origin : Origin) → IsOrigin origin → IsAsked ask.query → Again W → MakesKept (answer_by_origin W ask origin)
origin-kept W ask (OfIndex name) from asked a = tt
origin-kept W ask (OfCollection collection) from asked a =
    let shape = shape_asked collection ask.query in
    elim (is_whole ask.query) as (λ b. MakesKept (cond b (Ready (answer_from_collection W ask collection)) (answer_picked W ask (pick shape W.store W.slots)))) [
      | true ↦ tt
      | false ↦ picked-kept W ask shape (best W.store (filter (λ s. covers (slot_shape s) shape) W.slots)) (asked-kept collection ask.query from asked) a
    ]

refused-kept : (answered : Answered) (o : Option PlanRefusal) → MakesKept answered → MakesKept (answered_unless answered o)
refused-kept answered None k = k
refused-kept answered (Some refusal) k = tt

asked-Makes : (W : World) (ask : AskOf) → IsAsked ask.query → Again W → MakesKept (answer_ask W ask)
asked-Makes W ask asked a = refused-kept (answer_by_origin W ask ask.query.origin) (check ask) (origin-kept W ask ask.query.origin asked.origin asked a)

-- so has each index that a request makes
makes-kept : (r : Request) (W : World) (shape : Shape) → IsIndexing r → Again W → Makes r W shape → IsKeptShape shape
makes-kept r W shape index a (Makes.for_auto c f is e) =
    let paths = subst IsIndexing is index in
    subst MakesChoice e (chosen-kept W (one_field c f) (best W.store (filter (λ s. covers (slot_shape s) (one_field c f)) W.slots)) (one-kept c f paths) a)
makes-kept r W shape index a (Makes.for_ask ask is e) = subst MakesKept e (asked-Makes W ask (subst IsIndexing is index) a)

-- DEFINITIONS BY TEXTS

-- a valid line defines an index by a text, and so no automatic one
by_text-static : (name : List ℕ) (d : Definition) → IsByText name d → is_automatic d ≡ false
by_text-static name d x = ap is_automatic x.by_texts.by_texts

-- so is each definition of a request by texts
defines-by_text : (r : Request) (name : List ℕ) (d : Definition) → IsIndexing r → Defines r name d → IsByText name d
defines-by_text r name d index (Defines.alone is) = subst IsIndexing is index
defines-by_text r name d index (Defines.among parts is at) = all-has (λ (part : List ℕ × Definition). IsByText part.0 part.1) parts (name, d) (subst IsIndexing is index) at

-- if there is room
room-fit : (W : World) (name : List ℕ) (d : Definition) (c : SlotChange) → IsNew name d → Again W → added_if_room W name d ≡ Ok c → IsFitChange c
room-fit W name d c new a e =
    let room = past_test (nat_le W.setting.max_slots (length W.slots)) SlotRefusal.TooManyIndexes (Ok (added W name d)) c e in
    subst IsFitChange (same_change (added W name d) c room.1) (added-fit W W.slots name d new a.slots)

dropped-fit : (W : World) (r : Slot) (name : List ℕ) → Again W → IsFitChange (dropped W r name)
dropped-fit W r name a = record { commands = (deletes (index_id r.name), tt); slots = without-right W r.number a }

define_beside-fit : (W : World) (name : List ℕ) (d : Definition) (s : Slot) (other : Option Slot) (c : SlotChange) → IsNew name d → is_automatic d ≡ false → is_static_name s.name ≡ true → Again W
    → define_beside W d s other ≡ Ok c → IsFitChange c
define_beside-fit W name d s None c new is named a = elim (same_definition d s.version.definition) as (λ b. cond b (Ok (unchanged W s.name)) (added_if_room W (replacement_of s.name) d) ≡ Ok c → IsFitChange c) [
  | true ↦ λ e. subst IsFitChange (same_change (unchanged W s.name) c e) (unchanged-fit W s.name a)
  | false ↦ λ e. room-fit W (replacement_of s.name) d c (replacement-new name s.name d new is named) a e
]
define_beside-fit W name d s (Some r) c new is named a =
    elim (same_definition d s.version.definition) as (λ b. cond {A = Result SlotChange SlotRefusal} b (Ok (dropped W r s.name))
    (cond (same_definition d r.version.definition) (Ok (unchanged W r.name)) (Ok (added_to W (without r.number W.slots) (replacement_of s.name) d))) ≡ Ok c → IsFitChange c) [
      | true ↦ λ e. subst IsFitChange (same_change (dropped W r s.name) c e) (dropped-fit W r s.name a)
      | false ↦ elim (same_definition d r.version.definition) as (λ b.
          cond {A = Result SlotChange SlotRefusal} b (Ok (unchanged W r.name)) (Ok (added_to W (without r.number W.slots) (replacement_of s.name) d)) ≡ Ok c → IsFitChange c) [
            | true ↦ λ e. subst IsFitChange (same_change (unchanged W r.name) c e) (unchanged-fit W r.name a)
            | false ↦ λ e. subst IsFitChange (same_change (added_to W (without r.number W.slots) (replacement_of s.name) d) c e)
                (added-fit W (without r.number W.slots) (replacement_of s.name) d (replacement-new name s.name d new is named) (without-right W r.number a))
          ]
    ]

define_at-fit : (W : World) (name : List ℕ) (d : Definition) (there : Option Slot) (c : SlotChange) → IsNew name d → is_automatic d ≡ false → is_reserved_name name ≡ false → Again W
    → serving W.slots name ≡ there → define_at W name d there ≡ Ok c → IsFitChange c
define_at-fit W name d None c new is free a serves e = room-fit W name d c new a e
define_at-fit W name d (Some s) c new is free a serves e =
    let at = served W.slots name s serves in
    let right = a.slots s at.0 in
    define_beside-fit W name d s (serving W.slots (replacement_of s.name)) c new is (given-static s.version.definition s.name right.named (reserved-other name s.name at.1 free)) a e

define_named-fit : (W : World) (name : List ℕ) (d : Definition) (c : SlotChange) → IsByText name d → Again W → define_named W name d ≡ Ok c → IsFitChange c
define_named-fit W name d c x a =
    let there = serving W.slots name in
    elim (is_reserved_name name) as (λ b. is_reserved_name name ≡ b
    → unless_refused (cond b (Some SlotRefusal.ReservedName) (cond (nat_lt 200 (length name)) (Some (SlotRefusal.NameTooLong (length name))) None)) (define_at W name d there) ≡ Ok c → IsFitChange c) [
      | true ↦ λ e g. absurd cc
      | false ↦ λ e. elim (nat_lt 200 (length name)) as (λ b. nat_lt 200 (length name) ≡ b
          → unless_refused (cond b (Some (SlotRefusal.NameTooLong (length name))) None) (define_at W name d there) ≡ Ok c → IsFitChange c) [
            | true ↦ λ f g. absurd cc
            | false ↦ λ f g. define_at-fit W name d there c (static-new name d x e (ltb-false 200 (length name) f)) (by_text-static name d x) e a refl g
          ] refl
    ] refl

-- INDEXES THAT ARE REMOVED, whose rows are deleted

taken_out-fit : (W : World) (s : Slot) (other : Option Slot) → Again W → IsFitChange (taken_out W s other)
taken_out-fit W s None a = record { commands = (deletes (index_id s.name), tt); slots = without-right W s.number a }
taken_out-fit W s (Some r) a = record {
  commands = (deletes (index_id s.name), (deletes (index_id r.name), tt));
  slots = filter-right (λ x. not (x.number == r.number)) (without s.number W.slots) (without-right W s.number a);
}

remove-fit : (W : World) (there : Option Slot) (c : SlotChange) → Again W → removed W there ≡ Ok c → IsFitChange c
remove-fit W None c a e = absurd cc
remove-fit W (Some s) c a e =
    let other = serving W.slots (replacement_of s.name) in subst IsFitChange (same_change (taken_out W s other) c e) (taken_out-fit W s other a)

-- SWITCHES, AND A TIDY

switch-fit : (W : World) (name : List ℕ) (c : SlotChange) → Sound W → Again W → switch W name ≡ Ok c → IsFitChange c
switch-fit W name c o a e =
    let w = switch-Switches W name c e in
    let s = w.old in
    let r = w.new in
    let p = found-Replaces W s r o (served W.slots name s w.serves).0 w.built in
    let its = a.slots s p.old in
    let own = a.slots r p.new in
    let static : is_automatic r.version.definition ≡ false = o.kinds r p.new ∙ replacing-no-auto r.name s.name p.named in
    subst IsFitChange w.change (record {
      commands = (puts s.name r.version.definition (own.body static) (static-fit s.name (given-static s.version.definition s.name its.named p.given)), (deletes (index_id r.name), tt));
      slots = renamed-right (without s.number W.slots) s r (last W.store + 1) (without-right W s.number a) its p.given (λ x h auto.
          elim (x.number == r.number) as (λ b. (x.number == r.number) ≡ b → b ≡ false) [
            | true ↦ λ g. absurd (let same = one_number W x r o (Has-without s.number W.slots x h) p.new (eqb-true x.number r.number g) in let f = ap (λ (y : Slot). is_automatic y.version.definition) same in cc)
            | false ↦ λ g. refl
          ] refl);
    })

retirement-fit : (W : World) → Again W → IsFitChange (retirement W)
retirement-fit W a = record { commands = by (retired W.slots); slots = filter-right (λ x. not (is_retired W.slots x)) W.slots a.slots }
  where
    by : (slots : List Slot) → AreServed (map (λ s. Command.Delete (index_id s.name) AnyVector) slots)
    by [] = tt
    by (s ∷ slots) = (deletes (index_id s.name), by slots)

-- each change of the indexes
reslot-fit : (r : Request) (W : World) (c : SlotChange) → IsIndexing r → Sound W → Again W → IsReslot r W c → IsFitChange c
reslot-fit r W c index o a (IsReslot.defined name d is e) = define_named-fit W name d c (defines-by_text r name d index is) a e
reslot-fit r W c index o a (IsReslot.made shape by e) = made-fit W shape c (makes-kept r W shape index a by) o a e
reslot-fit r W c index o a (IsReslot.removed name is e) = remove-fit W (serving W.slots name) c a e
reslot-fit r W c index o a (IsReslot.switched name is e) = switch-fit W name c o a e
reslot-fit r W c index o a (IsReslot.retires is e) = subst IsFitChange (sym e) (retirement-fit W a)

-- BATCHES

advanced-Again : (W : World) (max : ℕ) (chosen : Slot → Bool) → Again W → Again (advanced_by W max chosen)
advanced-Again W max chosen a = record { all = a.all; slots = advanced-right W.store max chosen W.slots a.slots }

-- CLEANING

-- what is left was there
cleaned-all : (upto : ℕ) (S : Store) → AllLast S.rows → AllLast (clean upto S).rows
cleaned-all upto S all = subst AllLast (sym (clean-rows upto S)) (λ r h. all r (Has-filter (λ x. not (is_old_tombstone upto x)) S.rows r h))

-- EVENTS

-- a world that opens again
record Opens (W : World) : Type 0 where
  pub sound : Sound W
  pub again : Again W

-- what a valid request may do
record IsGiven (now : ℕ) (r : Request) : Type 0 where
  pub commands : AreCommands (commands_in r)
  pub indexing : IsIndexing r
  pub client : IsFromClient (Do r)
  pub soon : now < moments_end

act-Again : (now : ℕ) (r : Request) (W : World) (c : Change) → IsGiven now r → Sound W → Again W → IsAct now r W c → Again c.world
act-Again now r W c g o a (IsAct.writes w is e) = subst (λ (x : Change). Again x.world) (sym e) (written-Again W now (commands_in r) w is g.commands g.soon o a)
act-Again now r W c g o a (IsAct.reslots s) =
    subst (λ (x : Change). Again x.world) (sym s.is) (changed-Again W now s.slots s.written s.commits (reslot-fit r W s.slots g.indexing o a s.by) g.soon o a)
act-Again now r W c g o a (IsAct.advances max chosen e) = subst (λ (x : Change). Again x.world) (sym e) (advanced-Again W max chosen a)
act-Again now r W c g o a (IsAct.cleans is e) = subst (λ (x : Change). Again x.world) (sym e) (record { all = cleaned-all (clean_upto W) W.store a.all; slots = a.slots })

course-Again : (W : World) (now : ℕ) (r : Request) → IsGiven now r → Sound W → Again W → AllLeave Again (course_of W now r).changes
course-Again W now r g o a =
    let cs = (course_of W now r).changes in
    all-leave Again W cs (all-along (IsAct now r) (λ V c. Again c.world) Opens (λ V c i act.
    let kept = act-Again now r V c g i.sound i.again act in
    (kept, record { sound = (act-Moves now r V c g.client i.sound act).sound; again = kept })) W cs (record { sound = o; again = a }) (all-acts now r W cs (course-acts W now r)))

settled-Again : (M : Machine) (k : Keeping) (c : Course) → Again M.world → AllLeave Again c.changes → Again (settled M k c).machine.world
settled-Again M k c a all = settled-leaves Again M k c a all

-- a batch that is published keeps the definition of its index
published-Again : (W : World) (h : Held) (there : Option Slot) (V : World) → IsHeld W h → published_in W h.number h.version there ≡ Ok V → Again W → Again V
published-Again W h None V k e a = absurd cc
published-Again W h (Some s) V k e a = elim (nat_lt s.version.etag h.version.etag) as (λ b. cond b (put_in W h.number h.version) (Err (Passed s.version.etag)) ≡ Ok V → Again V) [
  | true ↦ λ g. subst Again (same_world (with_slots W (map put W.slots)) V (brought g)) (record { all = a.all; slots = put-right })
  | false ↦ λ g. absurd cc
] e
  where
    put : Slot → Slot
    put = with_version h.number h.version

    same_world : (A B : World) → (let r : Result World PublishRefusal = Ok A in r) ≡ Ok B → A ≡ B
    same_world A B g = cc

    brought : put_in W h.number h.version ≡ Ok V → (let r : Result World PublishRefusal = Ok (with_slots W (map (with_version h.number h.version) W.slots)) in r) ≡ Ok V
    brought g = elim (was_cleaned W.store h.version) as (λ c. cond c (Err (Cleaned W.store.cleaned)) (Ok (with_slots W (map (with_version h.number h.version) W.slots))) ≡ Ok V
        → (let r : Result World PublishRefusal = Ok (with_slots W (map (with_version h.number h.version) W.slots)) in r) ≡ Ok V) [
          | true ↦ λ f. absurd cc
          | false ↦ λ f. f
        ] g

    put-keeps : (x : Slot) → Has W.slots x → Keeps x (with_version h.number h.version x)
    put-keeps x there = elim (x.number == h.number) as (λ b. (x.number == h.number) ≡ b → Keeps x (cond b (record { number = x.number; name = x.name; version = h.version; row = x.row }) x)) [
      | true ↦ λ t. record { number = refl; name = refl; row = refl; definition = sym (k.same x there (eqb-true x.number h.number t)) }
      | false ↦ λ t. record { number = refl; name = refl; row = refl; definition = refl }
    ] refl

    put-right : AllRight (map (with_version h.number h.version) W.slots)
    put-right y at = let x = Has-map (with_version h.number h.version) W.slots y at in subst IsRight x.2 (kept-right x.0 (with_version h.number h.version x.0) (put-keeps x.0 x.1) (a.slots x.0 x.1))

publish-Again : (M : Machine) (worker : ℕ) (there : Option Held) → IsMachine M → held_by M.held worker ≡ there → Again M.world → Again (publish_by M worker there).machine.world
publish-Again M worker None i e a = a
publish-Again M worker (Some h) i e a = by (published M.world h.number h.version) refl
  where
    by : (o : Result World PublishRefusal) → published M.world h.number h.version ≡ o → Again (publish_to M worker (published_reply h.version (numbered M.world.slots h.number)) o).machine.world
    by (Err refusal) f = a
    by (Ok V) f = published-Again M.world h (numbered M.world.slots h.number) V (i.held h (find-Has (λ x. x.worker == worker) M.held h e).0) f a

valid-client : (line : Line) → IsValidLine line → IsFromClient line
valid-client (Do (Define name d)) valid = by_text-static name d valid.indexing
valid-client (Do (Multi parts)) valid = parts-formed parts valid.indexing
valid-client other valid = tt

step-Again : (M : Machine) (k : Keeping) (now : ℕ) (line : Line) → IsValidLine line → now < moments_end → IsMachine M → Again M.world → Again (step M k now line).machine.world
step-Again M k now (Do request) valid soon i a =
    let given : IsGiven now request = record { commands = valid.commands; indexing = valid.indexing; client = valid-client (Do request) valid; soon = soon } in
    settled-Again M k (course_of M.world now request) a (course-Again M.world now request given i.world a)
step-Again M k now (Read worker max index) valid soon i a = subst Again (sym (read-world M worker max index (serving M.world.slots index))) a
step-Again M k now (Publish worker) valid soon i a = publish-Again M worker (held_by M.held worker) i refl a

pub events-clients : (es : List Event) → AreEvents es → AreFromClients es
events-clients [] fits = tt
events-clients (e ∷ es) fits = (valid-client e.line fits.0.valid, events-clients es fits.1)

pub run-Again : (es : List Event) (M : Machine) → AreEvents es → IsMachine M → Again M.world → Again (run es M).world
run-Again [] M fits i a = a
run-Again (e ∷ es) M fits i a =
    run-Again es (after M e) fits.1 (step-Steps M e.keeping e.now e.line (valid-client e.line fits.0.valid) i).machine
    (step-Again M e.keeping e.now e.line fits.0.valid fits.0.moment i a)
