-- The changes that a world makes.
use Rattle.std.proofs.Common.{◌≡◌, ◌<◌, ◌+◌, ◌^◌, ℕ, List, [], ◌∷◌, Bool, true, false, cond, nat_le, map, Option, Some, None, Result, Ok, Err, refl, sym, ap, ◌∙◌, subst, arith}
use Rattle.std.proofs.lemmas.Grind.{common_steps}
use Rattle.std.specs.Prelude.{IfSome, is_none}
use Rattle.std.specs.Option.{option_map}
use Rattle.spec_store.specs.Store.{Store, last}
use Rattle.spec_data.specs.Rows.{Row}
use Rattle.spec_store.specs.Commit.{Client, Server, Command, Put, Delete, Refused, Written, commit, etags_taken}
use Rattle.spec_server.specs.Replies.{Reply, Index, Result as Done, TooManyIndexes as TooMany}
use Rattle.spec_server.specs.Replies as replies
use Rattle.index_tree.specs.Definitions.{Definition, Auto, AutoReduce}
use Rattle.spec_index.specs.Optimiser.{Shape, definition_of, retired, retirement}
use Rattle.spec_index.specs.World.{World, Slot, SlotChange, added, begins_with_auto, define, define_named, is_automatic, serving}
use Rattle.spec_index.specs.World as is
use Rattle.spec_server.specs.Courses.{Course, changed, in_world, one_change, only_reply}
use Rattle.spec_server.specs.Writes.{refused_at, result_of, results_of, single_reply, write_refused, wrote, write}
use Rattle.spec_server.specs.Indexing.{change_of_slots, made_name, retire, rewrote, slot_refused, try_switch}
use Rattle.raven_laws.proofs.KindLemmas.{name_of-begins}
use Rattle.side_by_side.specs.Changes.{MayDefine, answer_view as slot_answer}
use Rattle.side_by_side.specs.Standing.{Standing}
use Rattle.side_by_side.specs.declared.change.SlotRefusal.{SlotRefusal}
use Rattle.side_by_side.specs.declared.change.SlotRefusal.TheVariants as refusal
use Rattle.raven_world.specs.Slotting.{IsSlotRefusal, change_to, refusal_view}
use Rattle.raven_world.specs.Transacts.{bare}

-- WRITES

pub write-refused : (W : World) (reply : List Done → Reply) (now : ℕ) (commands : List Command) (refused : Refused) (told : Reply) → commit W.setting Client now commands W.store ≡ Err refused
    → told ≡ refused_at refused.at refused.kind → only_reply told ≡ write W reply now commands
write-refused W reply now commands refused told is tells = ap only_reply tells ∙ ap (wrote W reply now commands) (sym is)

pub write-done : (W : World) (reply : List Done → Reply) (now : ℕ) (commands : List Command) (w : Written) (told : Reply) (etags : List (Option ℕ)) → commit W.setting Client now commands W.store ≡ Ok w
    → etags ≡ etags_taken now commands W.store → told ≡ reply (results_of W.setting.base w.store commands etags)
    → one_change told w.rows (in_world W w.store W.slots) ≡ write W reply now commands
write-done W reply now commands w told etags is taken tells =
    ap change_with (tells ∙ ap (λ e. reply (results_of W.setting.base w.store commands e)) taken) ∙ ap (wrote W reply now commands) (sym is)
  where
    change_with : Reply → Course
    change_with r = one_change r w.rows (in_world W w.store W.slots)

-- what a command did is told by its head alone
bare-result : (base : List ℕ) (N : Store) (c : Command) (etag : Option ℕ) → result_of base N (bare c) etag ≡ result_of base N c etag
bare-result base N (Put id expected body) None = refl
bare-result base N (Put id expected body) (Some etag) = refl
bare-result base N (Delete id expected) etag = refl

bare-results : (base : List ℕ) (N : Store) (cs : List Command) (etags : List (Option ℕ)) → results_of base N (map bare cs) etags ≡ results_of base N cs etags
bare-results base N [] etags = refl
bare-results base N (c ∷ cs) [] = refl
bare-results base N (c ∷ cs) (etag ∷ etags) = λ i. (bare-result base N c etag) i ∷ (bare-results base N cs etags) i

pub write-all : (W : World) (now : ℕ) (commands heads : List Command) (w : Written) (etags : List (Option ℕ)) (course : Course) → commit W.setting Client now commands W.store ≡ Ok w
    → etags ≡ etags_taken now commands W.store → heads ≡ map bare commands
    → course ≡ one_change (replies.Bulk (results_of W.setting.base w.store heads etags)) w.rows (in_world W w.store W.slots) → course ≡ write W replies.Bulk now commands
write-all W now commands heads w etags course is taken bares tells =
    let base = W.setting.base in
    tells
    ∙ write-done W replies.Bulk now commands w (replies.Bulk (results_of base w.store heads etags)) etags is taken
    (ap (λ hs. replies.Bulk (results_of base w.store hs etags)) bares ∙ ap replies.Bulk (bare-results base w.store commands etags))

pub ruleset writes_all = (write-refused, write-all)

pub write-one : (W : World) (now : ℕ) (c head : Command) (w : Written) (told : Reply) (etags : List (Option ℕ)) → commit W.setting Client now (c ∷ []) W.store ≡ Ok w
    → etags ≡ etags_taken now (c ∷ []) W.store → head ≡ bare c → told ≡ single_reply (results_of W.setting.base w.store (head ∷ []) etags)
    → one_change told w.rows (in_world W w.store W.slots) ≡ write W single_reply now (c ∷ [])
write-one W now c head w told etags is taken bares tells =
    write-done W single_reply now (c ∷ []) w told etags is taken
    (tells ∙ ap (λ h. single_reply (results_of W.setting.base w.store (h ∷ []) etags)) bares ∙ ap single_reply (bare-results W.setting.base w.store (c ∷ []) etags))

pub ruleset writes_one = (write-refused, write-one)

-- CHANGES OF SLOTS

pub rewrote-refused : (W : World) (now : ℕ) (reply : Reply) (c : SlotChange) (refused : Refused) (told : Reply) → commit W.setting Server now c.commands W.store ≡ Err refused → told ≡ write_refused refused
    → only_reply told ≡ rewrote W reply c (commit W.setting Server now c.commands W.store)
rewrote-refused W now reply c refused told is tells = ap only_reply tells ∙ ap (rewrote W reply c) (sym is)

rewrote-done : (W : World) (now : ℕ) (reply : Reply) (c : SlotChange) (w : Written) (rows : List Row) (V : World) → commit W.setting Server now c.commands W.store ≡ Ok w → rows ≡ w.rows → V ≡ changed W w.store c
    → one_change reply rows V ≡ rewrote W reply c (commit W.setting Server now c.commands W.store)
rewrote-done W now reply c w rows V is own made = (λ i. one_change reply (own i) (made i)) ∙ ap (rewrote W reply c) (sym is)

-- a change that is made, and what is answered
pub reslotted : (W : World) (now : ℕ) (told : List ℕ → Reply) (name : List ℕ) (change : Result SlotChange is.SlotRefusal) (c : SlotChange) (reply : Reply) (answer : Option Course) → Ok c ≡ change → reply ≡ told c.name
    → IfSome answer (λ course. course ≡ rewrote W reply c (commit W.setting Server now c.commands W.store)) → IfSome answer (λ course. course ≡ change_of_slots W now told name change)
reslotted W now told name change c reply answer is tells h =
    subst (λ x. IfSome answer (λ course. course ≡ x)) (ap (λ r. rewrote W r c (commit W.setting Server now c.commands W.store)) tells ∙ ap (change_of_slots W now told name) is) h

some-same : {A : Type 0} (a b : A) → Some a ≡ Some b → a ≡ b
some-same a b h = cc

-- a change that is not made, and its reply
pub slot-refused : (name : List ℕ) (change : Result SlotChange is.SlotRefusal) (refusal : SlotRefusal) (reply : Reply)
    → IfSome (slot_answer (Err refusal)) (λ c. c ≡ change) → option_map (slot_refused name) (refusal_view refusal) ≡ Some reply → IsSlotRefusal name change reply
slot-refused name change refusal.NoIndex reply h e = record { refusal = is.NoIndex; cause = sym h; told = sym (some-same (slot_refused name is.NoIndex) reply e) }
slot-refused name change refusal.TooManyIndexes reply h e = record { refusal = is.TooManyIndexes; cause = sym h; told = sym (some-same (slot_refused name is.TooManyIndexes) reply e) }
slot-refused name change (refusal.NotFresh index_etag newest) reply h e =
    record { refusal = is.NotFresh index_etag newest; cause = sym h; told = sym (some-same (slot_refused name (is.NotFresh index_etag newest)) reply e) }
slot-refused name change refusal.NoReplacement reply h e = record { refusal = is.NoReplacement; cause = sym h; told = sym (some-same (slot_refused name is.NoReplacement) reply e) }
slot-refused name change refusal.NotesFull reply h e = record { refusal = is.NotesFull; cause = sym h; told = sym (some-same (slot_refused name is.NotesFull) reply e) }
slot-refused name change refusal.ReservedName reply h e = record { refusal = is.ReservedName; cause = sym h; told = sym (some-same (slot_refused name is.ReservedName) reply e) }
slot-refused name change (refusal.NameTooLong len) reply h e = record { refusal = is.NameTooLong len; cause = sym h; told = sym (some-same (slot_refused name (is.NameTooLong len)) reply e) }
slot-refused name change refusal.NoMemory reply h e = absurd cc

refused-told : (W : World) (now : ℕ) (told : List ℕ → Reply) (name : List ℕ) (change : Result SlotChange is.SlotRefusal) (reply : Reply) → IsSlotRefusal name change reply
    → only_reply reply ≡ change_of_slots W now told name change
refused-told W now told name change reply h = ap only_reply h.told ∙ ap (change_of_slots W now told name) (sym h.cause)

pub reslots-refused : (W : World) (now : ℕ) (told : List ℕ → Reply) (name : List ℕ) (change : Result SlotChange is.SlotRefusal) (refusal : SlotRefusal) (reply : Reply)
    → IfSome (slot_answer (Err refusal)) (λ c. c ≡ change) → option_map (slot_refused name) (refusal_view refusal) ≡ Some reply → only_reply reply ≡ change_of_slots W now told name change
reslots-refused W now told name change refusal reply h e = refused-told W now told name change reply (slot-refused name change refusal reply h e)

-- SWITCHES THAT ARE TRIED

-- a refusal that is not for want of memory is passed over
pub tried-passed : (W : World) (now : ℕ) (switched : List (List ℕ)) (more : World → List (List ℕ) → Course) (r : SlotRefusal) (change : Result SlotChange is.SlotRefusal) → is_none (refusal_view r) ≡ false
    → IfSome (slot_answer (Err r)) (λ c. c ≡ change) → more W switched ≡ try_switch W now switched more change
tried-passed W now switched more refusal.NoIndex change other h = ap (try_switch W now switched more) h
tried-passed W now switched more refusal.TooManyIndexes change other h = ap (try_switch W now switched more) h
tried-passed W now switched more (refusal.NotFresh index_etag newest) change other h = ap (try_switch W now switched more) h
tried-passed W now switched more refusal.NoReplacement change other h = ap (try_switch W now switched more) h
tried-passed W now switched more refusal.NotesFull change other h = ap (try_switch W now switched more) h
tried-passed W now switched more refusal.ReservedName change other h = ap (try_switch W now switched more) h
tried-passed W now switched more (refusal.NameTooLong len) change other h = ap (try_switch W now switched more) h
tried-passed W now switched more refusal.NoMemory change other h = absurd cc

-- RETIREMENT

pub retired-told : (W : World) (now : ℕ) (switched retired_names : List (List ℕ)) (standing : Standing) (commands : List Command) (answer : Option Course)
    → standing.slots ≡ (retirement W).slots → standing.notes ≡ (retirement W).notes → commands ≡ (retirement W).commands → retired_names ≡ map (λ (s : Slot). s.name) (retired W.slots)
    → IfSome answer (λ course. course ≡ rewrote W (replies.Tidied retired_names switched) (change_to standing commands []) (commit W.setting Server now commands W.store))
    → IfSome answer (λ course. course ≡ retire W now switched)
retired-told W now switched retired_names standing commands answer slots notes own names h =
    subst (λ x. IfSome answer (λ course. course ≡ x))
    (λ i. rewrote W (replies.Tidied (names i) switched) (let c : SlotChange = record { slots = slots i; notes = notes i; commands = own i; name = [] } in c) (commit W.setting Server now (own i) W.store))
    h

-- A NEW AUTOMATIC INDEX

-- the server may define it under a free name
pub may-make : (W : World) (shape : Shape) (name : List ℕ) (d : Definition) → name ≡ made_name W shape → serving W.slots name ≡ None → d ≡ definition_of shape → MayDefine Server W.slots name d
may-make W shape name d named free own = (ap is_automatic own ∙ by shape.grouped, ap begins_with_auto named ∙ name_of-begins W.slots (last W.store + 1) shape, free)
  where
    by : (b : Bool) → is_automatic (cond b (AutoReduce shape.collection shape.groups shape.fields) (Auto shape.collection shape.fields)) ≡ true
    by true = refl
    by false = refl

-- AND THE QUERY FOR WHICH IT IS MADE

-- THE NAME OF A NEW INDEX

pub few_slots : (most slots : ℕ) → nat_le most slots ≡ false → most < 2 ^ 32 → slots < 2 ^ 32
few_slots most slots h lt = grind (arith, common_steps)

-- DEFINITIONS BY TEXTS
