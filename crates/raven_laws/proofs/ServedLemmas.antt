-- The index that serves a name goes on to serve it.
use Rattle.std.proofs.Common.{◌≡◌, ℕ, ◌+◌, List, [], ◌∷◌, ◌++◌, Bool, true, false, not, ◌==◌, cond, codes, is_some, nat_eq, nat_le, nat_lt, length, Option, Some, None, Result, Ok, Err, filter, find, map, refl, sym, ap, ◌∙◌, subst, arith, ◌⊎◌, inl, inr, ◌≤◌}
use Rattle.std.proofs.lemmas.Bool.{eq-eqb, eqb-true, ltb-true}
use Rattle.std.specs.List.{starts_with}
use Rattle.std.specs.Option.{option_map}
use Rattle.spec_data.specs.Faults.{replacement_of}
use Rattle.spec_data.specs.Folding.{folded, same_key}
use Rattle.index_tree.specs.Definitions.{Definition, same_definition}
use Rattle.spec_store.specs.Store.{Store, IsStore, last}
use Rattle.spec_store.specs.Commit.{Refused, Server, Written, commit}
use Rattle.spec_index.specs.Optimiser.{definition_of, is_retired, retired, retirement}
use Rattle.spec_index.specs.Cleaning.{cleaned_world}
use Rattle.spec_index.specs.World.{Slot, SlotChange, SlotRefusal, World, added, added_if_room, added_to, batch, begins_with_replacement, define, define_at, define_beside, define_named, dropped, is_automatic, is_named, is_stale, name_refusal, named_anew, numbered, removed, renamed, serving, switch, taken_out, takes_over, unchanged, unless_refused, without}
use Rattle.spec_server.specs.Replies.{Reply}
use Rattle.spec_server.specs.Requests.{Request, Do, Keeping, Line, Multi, Publish, Read, Remove, Switch, Tidy, makes_several}
use Rattle.spec_server.specs.Courses.{Change, Course, Held, Machine, Replied, changed, in_world, is_taken, made, same_machine, settled, takes_after, with_slots, with_world}
use Rattle.spec_server.specs.Writes.{write_refused}
use Rattle.spec_server.specs.Indexing.{change_of_slots, made_name, replaced_names, retire, rewrote, switch_and, tidied, tidy, try_switch}
use Rattle.spec_server.specs.Batches.{after_batch, or_as_before}
use Rattle.spec_server.specs.Workers.{Cleaned, Passed, PublishRefusal, held_by, publish_by, publish_to, published, published_in, published_reply, with_version, put_in, was_cleaned}
use Rattle.spec_server.specs.Machine.{course_of}
use Rattle.spec_server.specs.Sound.{Continues, Has, IsHeld, IsMachine, LaterW, NamesApart, NumbersRise, Sound}
use Rattle.raven_laws.specs.Served.{IsSwitch, ServedStays, StaysOrGoes, StillServes}
use Rattle.spec_store.proofs.CommitLemmas.{commit-Commits}
use Rattle.raven_laws.proofs.Acts.{AllDo, AllLeave, AreActs, IsAct, IsReslot, Makes, Reslots, advanced_by, all-along, batch_if, chain, course-acts}
use Rattle.raven_laws.proofs.MachineLemmas.{made-leaves, read-world, settled-leaves}
use Rattle.raven_laws.proofs.Moving.{AllMove, CourseMoves, Moves, kept-by-batch, put-grows, reslot-Moves, tidy-Moves}
use Rattle.raven_laws.proofs.SlotLemmas.{Has-append, Has-mapped, Has-without, NumbersRise-filter, NumbersRise-push, batch-Brought, find-Has, into-filter, left_or, replacing, same_slot, served, serves}
use Rattle.raven_laws.proofs.WorldLemmas.{StartsWithPut, new_slot, LaterW-itself, LaterW-then, Replaces, client-unretired, found-Replaces, one_number, past_test, r_left, same_change, switch-Switches, take-apart, taken}

-- LISTS OF SLOTS

-- a change of slots that keeps their names
serving-map : (f : Slot → Slot) (slots : List Slot) (name : List ℕ) (s : Slot) → ((x : Slot) → (f x).name ≡ x.name)
    → serving slots name ≡ Some s → serving (map f slots) name ≡ Some (f s)
serving-map f [] name s keeps h = absurd cc
serving-map f (x ∷ slots) name s keeps h =
    subst (λ n. cond (same_key (folded name) (folded n)) (Some (f x)) (serving (map f slots) name) ≡ Some (f s)) (sym (keeps x))
    (elim (same_key (folded name) (folded x.name)) as (λ b. cond b (Some x) (serving slots name) ≡ Some s → cond b (Some (f x)) (serving (map f slots) name) ≡ Some (f s)) [
      | true ↦ λ e. ap (option_map f) e
      | false ↦ λ e. serving-map f slots name s keeps e
    ] h)

pub serving-append : (slots more : List Slot) (name : List ℕ) (s : Slot) → serving slots name ≡ Some s → serving (slots ++ more) name ≡ Some s
serving-append [] more name s h = absurd cc
serving-append (x ∷ slots) more name s h =
    elim (is_named name x) as (λ b. cond b (Some x) (serving slots name) ≡ Some s → cond b (Some x) (serving (slots ++ more) name) ≡ Some s) [
      | true ↦ λ e. e
      | false ↦ λ e. serving-append slots more name s e
    ] h

serving-filter : (p : Slot → Bool) (slots : List Slot) (name : List ℕ) (s : Slot) → serving slots name ≡ Some s → p s ≡ true → serving (filter p slots) name ≡ Some s
serving-filter p [] name s h is = absurd cc
serving-filter p (x ∷ slots) name s h is =
    elim (is_named name x) as (λ b. is_named name x ≡ b → cond b (Some x) (serving slots name) ≡ Some s → serving (cond (p x) (x ∷ filter p slots) (filter p slots)) name ≡ Some s) [
      | true ↦ λ f e.
          let same : x ≡ s = cc in
          subst (λ b. serving (cond b (x ∷ filter p slots) (filter p slots)) name ≡ Some s) (sym (ap p same ∙ is))
          (ap (λ b. cond b (Some x) (serving (filter p slots) name)) f ∙ e)
      | false ↦ λ f e. elim (p x) as (λ b. serving (cond b (x ∷ filter p slots) (filter p slots)) name ≡ Some s) [
        | true ↦ ap (λ b. cond b (Some x) (serving (filter p slots) name)) f ∙ serving-filter p slots name s e is
        | false ↦ serving-filter p slots name s e is
      ]
    ] refl h

-- WHAT IS LEFT AS IT WAS

-- a name that is no replacement's goes on to be served
abbrev Stays : World → World → Type 0
Stays W V = (name : List ℕ) (s : Slot) → begins_with_replacement name ≡ false → serving W.slots name ≡ Some s → StillServes V name s

still : (V : World) (name : List ℕ) (s : Slot) → serving V.slots name ≡ Some s → StillServes V name s
still V name s h = record { slot = s; serves = h; continues = record { number = refl; definition = refl; onward = omega arith; named = refl } }

itself : (W : World) → Stays W W
itself W name s plain h = still W name s h

settled-Stays : (M : Machine) (k : Keeping) (c : Course) → AllLeave (Stays M.world) c.changes → Stays M.world (settled M k c).machine.world
settled-Stays M k c all = settled-leaves (Stays M.world) M k c (itself M.world) all

-- NEW INDEXES

-- the slots of a change have each that served a name
abbrev HasServed : World → SlotChange → Type 0
HasServed W c = (name : List ℕ) (s : Slot) → begins_with_replacement name ≡ false → serving W.slots name ≡ Some s → serving c.slots name ≡ Some s

added-has : (W : World) (name : List ℕ) (d : Definition) → HasServed W (added W name d)
added-has W name d = λ n s plain h. serving-append W.slots _ n s h

define-has : (W : World) (name : List ℕ) (d : Definition) (c : SlotChange) → define W name d ≡ Ok c → HasServed W c
define-has W name d c h =
    let room = past_test (nat_le W.setting.max_slots (length W.slots)) SlotRefusal.TooManyIndexes (cond (is_some (serving W.slots name)) (Err SlotRefusal.NameServes) (Ok (added W name d))) c h in
    let free = past_test (is_some (serving W.slots name)) SlotRefusal.NameServes (Ok (added W name d)) c room.1 in
    subst (HasServed W) (same_change (added W name d) c free.1) (added-has W name d)

-- without a replacement each other name is served as before
pub without-has : (W : World) (s r : Slot) (name : List ℕ) (x : Slot) → NumbersRise 0 W.slots → Has W.slots r → folded r.name ≡ folded (replacement_of s.name)
    → begins_with_replacement name ≡ false → serving W.slots name ≡ Some x → serving (without r.number W.slots) name ≡ Some x
without-has W s r name x up there named plain h = serving-filter (λ y. not (y.number == r.number)) W.slots name x h (by (x.number == r.number) refl)
  where
    by : (b : Bool) → (x.number == r.number) ≡ b → not b ≡ true
    by false e = refl
    by true e =
        let at = served W.slots name x h in
        let same = same_slot 0 W.slots x r up at.0 there (eqb-true x.number r.number e) in
        let begins = replacing r.name s.name named in
        let f = ap (λ q. starts_with nat_eq q (codes "replacementof/")) (at.1 ∙ ap (λ (z : Slot). folded z.name) same) in
        absurd (let g = sym plain ∙ f ∙ begins in cc)

-- the numbers of slots rise, and none is past the last etag
record AreNumbered (W : World) : Type 0 where
  pub store : IsStore W.store
  pub within : (s : Slot) → Has W.slots s → s.number ≤ last W.store
  pub rising : NumbersRise 0 W.slots

-- A change of slots after which each name that is no replacement's is served as before. A new slot has the next etag as its number, and a row is put.
record Extends (W : World) (c : SlotChange) : Type 0 where
  pub has : HasServed W c
  pub rising : NumbersRise 0 c.slots
  pub each : (s : Slot) → Has c.slots s → Has W.slots s ⊎ (StartsWithPut c.commands × (s.number ≡ last W.store + 1))

unchanged-Extends : (W : World) (name : List ℕ) → AreNumbered W → Extends W (unchanged W name)
unchanged-Extends W name n = record { has = λ m x plain h. h; rising = n.rising; each = λ x h. inl h }

-- slots that were there, and a new one at the end
added_to-Extends : (W : World) (slots : List Slot) (name : List ℕ) (d : Definition) → AreNumbered W → NumbersRise 0 slots → ((x : Slot) → Has slots x → Has W.slots x)
    → ((m : List ℕ) (x : Slot) → begins_with_replacement m ≡ false → serving W.slots m ≡ Some x → serving slots m ≡ Some x) → Extends W (added_to W slots name d)
added_to-Extends W slots name d n up sub has = record {
  has = λ m x plain h. serving-append slots (new_slot W name d ∷ []) m x (has m x plain h);
  rising = NumbersRise-push 0 slots (new_slot W name d) up (omega arith) (λ x h. let a = n.within x (sub x h) in omega arith);
  each = λ x h. elim (Has-append slots (new_slot W name d ∷ []) x h) [
    | inl old ↦ inl (sub x old)
    | inr new ↦ inr (tt, elim new [ inl e ↦ ap (λ (y : Slot). y.number) (sym e) | inr none ↦ absurd none ])
  ];
}

if_room-Extends : (W : World) (name : List ℕ) (d : Definition) (c : SlotChange) → AreNumbered W → added_if_room W name d ≡ Ok c → Extends W c
if_room-Extends W name d c n h =
    let room = past_test (nat_le W.setting.max_slots (length W.slots)) SlotRefusal.TooManyIndexes (Ok (added W name d)) c h in
    subst (Extends W) (same_change (added W name d) c room.1) (added_to-Extends W W.slots name d n n.rising (λ x g. g) (λ m x plain g. g))

dropped-Extends : (W : World) (s r : Slot) (name : List ℕ) → AreNumbered W → Has W.slots r → folded r.name ≡ folded (replacement_of s.name) → Extends W (dropped W r name)
dropped-Extends W s r name n there named = record {
  has = λ m x plain h. without-has W s r m x n.rising there named plain h;
  rising = NumbersRise-filter 0 (λ x. not (x.number == r.number)) W.slots n.rising;
  each = λ x h. inl (Has-without r.number W.slots x h);
}

replaced-Extends : (W : World) (s r : Slot) (d : Definition) → AreNumbered W → Has W.slots r → folded r.name ≡ folded (replacement_of s.name)
    → Extends W (added_to W (without r.number W.slots) (replacement_of s.name) d)
replaced-Extends W s r d n there named = added_to-Extends W (without r.number W.slots) (replacement_of s.name) d n
    (NumbersRise-filter 0 (λ x. not (x.number == r.number)) W.slots n.rising) (Has-without r.number W.slots) (λ m x plain h. without-has W s r m x n.rising there named plain h)

define_beside-Extends : (W : World) (d : Definition) (s : Slot) (other : Option Slot) (c : SlotChange) → AreNumbered W → serving W.slots (replacement_of s.name) ≡ other
    → define_beside W d s other ≡ Ok c → Extends W c
define_beside-Extends W d s None c n none = elim (same_definition d s.version.definition) as (λ b. cond b (Ok (unchanged W s.name)) (added_if_room W (replacement_of s.name) d) ≡ Ok c → Extends W c) [
  | true ↦ λ h. subst (Extends W) (same_change (unchanged W s.name) c h) (unchanged-Extends W s.name n)
  | false ↦ λ h. if_room-Extends W (replacement_of s.name) d c n h
]
define_beside-Extends W d s (Some r) c n is =
    let at = served W.slots (replacement_of s.name) r is in
    elim (same_definition d s.version.definition) as (λ b.
    cond {A = Result SlotChange SlotRefusal} b (Ok (dropped W r s.name))
    (cond (same_definition d r.version.definition) (Ok (unchanged W r.name)) (Ok (added_to W (without r.number W.slots) (replacement_of s.name) d))) ≡ Ok c → Extends W c) [
      | true ↦ λ h. subst (Extends W) (same_change (dropped W r s.name) c h) (dropped-Extends W s r s.name n at.0 (sym at.1))
      | false ↦ elim (same_definition d r.version.definition) as (λ b.
          cond {A = Result SlotChange SlotRefusal} b (Ok (unchanged W r.name)) (Ok (added_to W (without r.number W.slots) (replacement_of s.name) d)) ≡ Ok c → Extends W c) [
            | true ↦ λ h. subst (Extends W) (same_change (unchanged W r.name) c h) (unchanged-Extends W r.name n)
            | false ↦ λ h. subst (Extends W) (same_change (added_to W (without r.number W.slots) (replacement_of s.name) d) c h) (replaced-Extends W s r d n at.0 (sym at.1))
          ]
    ]

define_at-Extends : (W : World) (name : List ℕ) (d : Definition) (there : Option Slot) (c : SlotChange) → AreNumbered W → define_at W name d there ≡ Ok c → Extends W c
define_at-Extends W name d None c n = if_room-Extends W name d c n
define_at-Extends W name d (Some s) c n = define_beside-Extends W d s (serving W.slots (replacement_of s.name)) c n refl

define_named-Extends : (W : World) (name : List ℕ) (d : Definition) (c : SlotChange) → AreNumbered W → define_named W name d ≡ Ok c → Extends W c
define_named-Extends W name d c n = elim (name_refusal name) as (λ r. unless_refused r (define_at W name d (serving W.slots name)) ≡ Ok c → Extends W c) [
  | None ↦ define_at-Extends W name d (serving W.slots name) c n
  | Some refusal ↦ λ h. absurd cc
]

-- BATCHES

brought-Continues : (W : World) (x : Slot) (max : ℕ) → Sound W → Has W.slots x → Continues x (after_batch W.store max x)
brought-Continues W x max o h =
    elim (batch x.version W.store max) as (λ b. batch x.version W.store max ≡ b → Continues x (record { number = x.number; name = x.name; version = or_as_before x.version b; row = x.row })) [
      | None ↦ λ e. record { number = refl; definition = refl; onward = omega arith; named = refl }
      | Some v ↦ λ e. let b = batch-Brought W.store x.version v max o.store (o.fits x h) e in record { number = refl; definition = b.definition; onward = b.onward; named = refl }
    ] refl

advanced-Stays : (W : World) (max : ℕ) (chosen : Slot → Bool) → Sound W → Stays W (advanced_by W max chosen)
advanced-Stays W max chosen o name s plain h = record {
  slot = batch_if W.store max chosen s;
  serves = serving-map (batch_if W.store max chosen) W.slots name s (λ x. (kept-by-batch W.store max chosen x).name) h;
  continues = elim (chosen s) as (λ b. Continues s (cond b (after_batch W.store max s) s)) [
    | true ↦ brought-Continues W s max o (served W.slots name s h).0
    | false ↦ record { number = refl; definition = refl; onward = omega arith; named = refl }
  ];
}

-- REMOVALS

-- of two slots that serve names of one folded form, each is the other
same_server : (slots : List Slot) (a b : List ℕ) (s t : Slot) → folded a ≡ folded b → serving slots a ≡ Some s → serving slots b ≡ Some t → s ≡ t
same_server slots a b s t e h g =
    let found : (let o : Option Slot = Some s in o) ≡ Some t = sym h ∙ ap (λ q. find (λ x. same_key q (folded x.name)) slots) e ∙ g in cc

-- a slot that is left without another serves its name as before
left-serves : (n : ℕ) (slots : List Slot) (name : List ℕ) (s : Slot) → serving slots name ≡ Some s → (s.number ≡ n → ⊥) → serving (without n slots) name ≡ Some s
left-serves n slots name s h other = serving-filter (λ y. not (y.number == n)) slots name s h
    (elim (s.number == n) as (λ b. (s.number == n) ≡ b → not b ≡ true) [ true ↦ λ e. absurd (other (eqb-true s.number n e)) | false ↦ λ e. refl ] refl)

taken-stays : (W : World) (x : Slot) (other : Option Slot) (name : List ℕ) (s : Slot) → Sound W → Has W.slots x → serving W.slots (replacement_of x.name) ≡ other
    → begins_with_replacement name ≡ false → serving W.slots name ≡ Some s → (s.number ≡ x.number → ⊥) → serving (taken_out W x other).slots name ≡ Some s
taken-stays W x None name s o at none plain h apart = left-serves x.number W.slots name s h apart
taken-stays W x (Some r) name s o at there plain h apart =
    let p = found-Replaces W x r o at there in
    left-serves r.number (without x.number W.slots) name s (left-serves x.number W.slots name s h apart) (λ e.
    let k = served W.slots name s h in
    let same = one_number W s r o k.0 p.new e in
    let begins = replacing r.name x.name p.named in
    let f = ap (λ q. starts_with nat_eq q (codes "replacementof/")) (k.1 ∙ ap (λ (z : Slot). folded z.name) same) in
    let g = sym plain ∙ f ∙ begins in cc)

abbrev removal_of : World → Slot → SlotChange
removal_of W x = taken_out W x (serving W.slots (replacement_of x.name))

abbrev gone_by : Machine → Slot → Written → Replied
gone_by M x w = let c = removal_of M.world x in record { reply = Reply.Removed c.name; machine = with_world M (changed M.world w.store c) }

remove-answered : (M : Machine) (k : Keeping) (now : ℕ) (given : List ℕ) (there : Option Slot) → Sound M.world → serving M.world.slots given ≡ there → (name : List ℕ) (s : Slot) → begins_with_replacement name ≡ false
    → serving M.world.slots name ≡ Some s → StaysOrGoes M.world (Do (Remove given)) (settled M k (change_of_slots M.world now Reply.Removed given (removed M.world there))) name s
remove-answered M k now given None o e name s plain h = inl (still M.world name s h)
remove-answered M k now given (Some x) o e name s plain h = by (commit M.world.setting Server now (removal_of M.world x).commands M.world.store)
  where
    named : (other : Option Slot) → (taken_out M.world x other).name ≡ x.name
    named None = refl
    named (Some r) = refl

    taken : (w : Written) → StaysOrGoes M.world (Do (Remove given)) (gone_by M x w) name s
    taken w =
        let at = served M.world.slots given x e in
        let it = served M.world.slots name s h in
        elim (s.number == x.number) as (λ b. (s.number == x.number) ≡ b → StaysOrGoes M.world (Do (Remove given)) (gone_by M x w) name s) [
          | true ↦ λ t.
              let same = one_number M.world s x o it.0 at.0 (eqb-true s.number x.number t) in
              inr (inl (record {
                given = given;
                asked = refl;
                same = at.1 ∙ ap (λ (z : Slot). folded z.name) (sym same) ∙ sym it.1;
                removed = ap Reply.Removed (named (serving M.world.slots (replacement_of x.name)) ∙ ap (λ (z : Slot). z.name) (sym same));
              }))
          | false ↦ λ t. inl (still (changed M.world w.store (removal_of M.world x)) name s
              (taken-stays M.world x (serving M.world.slots (replacement_of x.name)) name s o at.0 refl plain h (λ n. let f = eq-eqb s.number x.number n in cc)))
        ] refl

    by : (r : Result Written Refused) → StaysOrGoes M.world (Do (Remove given)) (settled M k (rewrote M.world (Reply.Removed (removal_of M.world x).name) (removal_of M.world x) r)) name s
    by (Err refused) = inl (still M.world name s h)
    by (Ok w) = elim (is_taken k.takes w.rows) as (λ b. StaysOrGoes M.world (Do (Remove given)) (cond b (gone_by M x w) (same_machine M (Reply.KeeperFault k.before k.after))) name s) [
      | true ↦ taken w
      | false ↦ inl (still M.world name s h)
    ]

-- SWITCHES

-- after a change that switches a name, that name is switched, and each other is served as before
pub record SwitchesOne (W : World) (V : World) : Type 0 where
  pub step : (name : List ℕ) (s : Slot) → begins_with_replacement name ≡ false → serving W.slots name ≡ Some s → (serving V.slots name ≡ Some s) ⊎ IsSwitch W V name s

map-serves : (f : Slot → Slot) (slots : List Slot) (s t : Slot) → NamesApart (map f slots) → Has slots s → f s ≡ t → serving (map f slots) t.name ≡ Some t
map-serves f slots s t apart h e = serves (map f slots) t apart (subst (Has (map f slots)) e (Has-mapped f slots s h))

-- serving a name of the same folded form is the same
serving-other : (slots : List Slot) (a b : List ℕ) → folded a ≡ folded b → serving slots a ≡ serving slots b
serving-other slots a b e = ap (λ q. find (λ x. same_key q (folded x.name)) slots) e

abbrev rest_of : World → Slot → List Slot
rest_of W old = without old.number W.slots

abbrev take_by : World → Slot → Slot → Slot → Slot
take_by W old new = renamed new.number old.name (last W.store + 1)

pub takes_over-one : (W : World) (w_old w_new : Slot) (S : Store) → Sound W → (p : Replaces W w_old w_new) → serving W.slots (replacement_of w_old.name) ≡ Some w_new → is_stale W.store w_new ≡ false
    → SwitchesOne W (changed W S (takes_over W w_old w_new))
takes_over-one W old new S o p built fresh = record {
  step = λ name s plain h.
      let it = served W.slots name s h in
      elim (s.number == old.number) as (λ b. (s.number == old.number) ≡ b → (serving (map (take_by W old new) (rest_of W old)) name ≡ Some s) ⊎ IsSwitch W (changed W S (takes_over W old new)) name s) [
        | true ↦ λ e.
            let same : old ≡ s = sym (one_number W s old o it.0 p.old (eqb-true s.number old.number e)) in
            inr (subst (IsSwitch W (changed W S (takes_over W old new)) name) same (record {
              new = new;
              built = built;
              fresh = fresh;
              serves = serving-other (map (take_by W old new) (rest_of W old)) name old.name (it.1 ∙ ap (λ (z : Slot). folded z.name) (sym same)) ∙ taker-serves;
              noted = refl;
            }))
        | false ↦ λ e.
            let kept : Has (rest_of W old) s = into-without s it.0 (λ n. let f = eq-eqb s.number old.number n in cc) in
            let fixed : take_by W old new s ≡ s = elim (taken W old new o p s it.0) [
              | inl a ↦ absurd (let f = ap (λ q. starts_with nat_eq q (codes "replacementof/")) (it.1 ∙ ap (λ (z : Slot). folded z.name) a.0) in let g = sym plain ∙ f ∙ replacing new.name old.name p.named in cc)
              | inr a ↦ a.1
            ] in
            inl (serving-other (map (take_by W old new) (rest_of W old)) name s.name it.1 ∙ map-serves (take_by W old new) (rest_of W old) s s (take-apart W old new o p) kept fixed)
      ] refl;
}
  where
    into-without : (x : Slot) → Has W.slots x → (x.number ≡ old.number → ⊥) → Has (rest_of W old) x
    into-without x h other = elim (left_or old.number W.slots x h) [ inl a ↦ a | inr e ↦ absurd (other e) ]

    taker-serves : serving (map (take_by W old new) (rest_of W old)) old.name ≡ Some (named_anew old.name (last W.store + 1) new)
    taker-serves = map-serves (take_by W old new) (rest_of W old) new (named_anew old.name (last W.store + 1) new) (take-apart W old new o p) (r_left W old new o p) (elim (taken W old new o p new p.new) [
      | inl a ↦ a.1
      | inr a ↦ absurd (a.0 refl)
    ])

switch-one : (W : World) (name : List ℕ) (c : SlotChange) (S : Store) → Sound W → switch W name ≡ Ok c → SwitchesOne W (changed W S c)
switch-one W name c S o h =
    let w = switch-Switches W name c h in
    let p = found-Replaces W w.old w.new o (served W.slots name w.old w.serves).0 w.built in
    subst (λ (x : SlotChange). SwitchesOne W (changed W S x)) w.change (takes_over-one W w.old w.new S o p w.built w.fresh)

-- the retirement takes automatic indexes away, and leaves all others
retirement-one : (W : World) (S : Store) (name : List ℕ) (s : Slot) → serving W.slots name ≡ Some s → (serving (retirement W).slots name ≡ Some s) ⊎ (is_retired W.slots s ≡ true)
retirement-one W S name s h = elim (is_retired W.slots s) as (λ b. is_retired W.slots s ≡ b → (serving (retirement W).slots name ≡ Some s) ⊎ (b ≡ true)) [
  | true ↦ λ e. inr refl
  | false ↦ λ e. inl (serving-filter (λ x. not (is_retired W.slots x)) W.slots name s h (ap not e))
] refl

-- only an automatic index is retired
retired-automatic : (slots : List Slot) (s : Slot) → is_retired slots s ≡ true → is_automatic s.version.definition ≡ true
retired-automatic slots s h = elim (is_automatic s.version.definition) as (λ b. is_automatic s.version.definition ≡ b → b ≡ true) [
  | true ↦ λ e. refl
  | false ↦ λ e. absurd (let f = client-unretired slots s e in cc)
] refl

-- IN A TIDY

abbrev Along : World → Line → Replied → Type 0
Along W line replied = (name : List ℕ) (s : Slot) → begins_with_replacement name ≡ false → serving W.slots name ≡ Some s → StaysOrGoes W line replied name s

unmade : (M : Machine) (reply : Reply) → Along M.world (Do Tidy) (same_machine M reply)
unmade M reply name s plain h = inl (still M.world name s h)

retire-along : (M : Machine) (k : Keeping) (takes : List Bool) (now : ℕ) (done : List (List ℕ)) → let c = retire M.world now done in Along M.world (Do Tidy) (made k M takes c.changes c.reply)
retire-along M k takes now done = by (commit M.world.setting Server now (retirement M.world).commands M.world.store)
  where
    by : (o : Result Written Refused) → let c = rewrote M.world (tidied M.world done) (retirement M.world) o in Along M.world (Do Tidy) (made k M takes c.changes c.reply)
    by (Err refused) = unmade M (write_refused refused)
    by (Ok w) = elim (is_taken takes w.rows) as (λ b. Along M.world (Do Tidy) (cond b (record { reply = tidied M.world done; machine = with_world M (changed M.world w.store (retirement M.world)) })
        (same_machine M (Reply.KeeperFault k.before k.after)))) [
          | true ↦ λ name s plain h. elim (retirement-one M.world w.store name s h) [
            | inl there ↦ inl (still (changed M.world w.store (retirement M.world)) name s there)
            | inr gone ↦ inr (inr (inl (record {
              asked = refl;
              automatic = retired-automatic M.world.slots s gone;
              retired = map (λ x. x.name) (retired M.world.slots);
              switched = done;
              told = refl;
              among = Has-mapped (λ (x : Slot). x.name) (retired M.world.slots) s (into-filter (is_retired M.world.slots) M.world.slots s (served M.world.slots name s h).0 gone);
            })))
          ]
          | false ↦ unmade M (Reply.KeeperFault k.before k.after)
        ]

-- after one switch what comes later goes on
switched-along : (M : Machine) (V : World) (replied : Replied) → Moves M.world V → SwitchesOne M.world V → LaterW V replied.machine.world → Along V (Do Tidy) replied → Along M.world (Do Tidy) replied
switched-along M V replied m one later rest name s plain h = elim (one.step name s plain h) [
  | inr was ↦ inr (inr (inr (record {
    before = M.world;
    after = V;
    earlier = LaterW-itself M.world;
    old = s;
    served = h;
    continues = record { number = refl; definition = refl; onward = omega arith; named = refl };
    switch = was;
    later = later;
  })))
  | inl there ↦ elim (rest name s plain there) [
    | inl stays ↦ inl stays
    | inr (inl gone) ↦ inr (inl gone)
    | inr (inr (inl gone)) ↦ inr (inr (inl gone))
    | inr (inr (inr was)) ↦ inr (inr (inr (record {
      before = was.before;
      after = was.after;
      earlier = LaterW-then M.world V was.before m.later was.earlier;
      old = was.old;
      served = was.served;
      continues = was.continues;
      switch = was.switch;
      later = was.later;
    })))
  ]
]

-- each course that begins in a sound world ends in a later one
pub made-later : (k : Keeping) (M : Machine) (takes : List Bool) (c : Course) → CourseMoves M.world c → LaterW M.world (made k M takes c.changes c.reply).machine.world
made-later k M takes c all = made-leaves (LaterW M.world) k M takes c.changes c.reply (LaterW-itself M.world)
    (chain LaterW LaterW-then M.world M.world (LaterW-itself M.world) c.changes (all-later M.world c.changes all))
  where
    all-later : (W : World) (changes : List Change) → AllMove W changes → AllDo (λ V x. LaterW V x.world) W changes
    all-later W [] a = tt
    all-later W (x ∷ more) a = ((a.0).later, all-later x.world more a.1)

-- what comes after a switch in a Tidy, in each state
abbrev Rest : Keeping → ℕ → List (List ℕ) → Type 0
Rest k now names = (N : Machine) (left : List Bool) (all : List (List ℕ)) → Sound N.world → let c = tidy now names N.world all in Along N.world (Do Tidy) (made k N left c.changes c.reply)

tidy-go : (k : Keeping) (now : ℕ) (name : List ℕ) (names : List (List ℕ)) (M : Machine) (takes : List Bool) (done : List (List ℕ)) → Sound M.world → Rest k now names
    → (c : SlotChange) → switch M.world name ≡ Ok c → (r : Result Written Refused) → commit M.world.setting Server now c.commands M.world.store ≡ r
    → let x = switch_and M.world c (λ V. tidy now names V (done ++ c.name ∷ [])) r in Along M.world (Do Tidy) (made k M takes x.changes x.reply)
tidy-go k now name names M takes done o rest c e (Err refused) f = unmade M (write_refused refused)
tidy-go k now name names M takes done o rest c e (Ok w) f =
    let V = changed M.world w.store c in
    let N = with_world M V in
    let all = done ++ c.name ∷ [] in
    let left = takes_after w.rows takes in
    let m = reslot-Moves now Tidy M.world c w tt o (IsReslot.switched name (inr refl) e) f in
    let x = tidy now names V all in
    elim (is_taken takes w.rows) as (λ b. Along M.world (Do Tidy) (cond b (made k N left x.changes x.reply) (same_machine M (Reply.KeeperFault k.before k.after)))) [
      | true ↦ switched-along M V (made k N left x.changes x.reply) m (switch-one M.world name c w.store o e) (made-later k N left x (tidy-Moves now names V all m.sound)) (rest N left all m.sound)
      | false ↦ unmade M (Reply.KeeperFault k.before k.after)
    ]

tidy-try : (k : Keeping) (now : ℕ) (name : List ℕ) (names : List (List ℕ)) (M : Machine) (takes : List Bool) (done : List (List ℕ)) → Sound M.world → Rest k now names
    → (r : Result SlotChange SlotRefusal) → switch M.world name ≡ r
    → let x = try_switch M.world now done (λ V all. tidy now names V all) r in Along M.world (Do Tidy) (made k M takes x.changes x.reply)
tidy-try k now name names M takes done o rest (Err refusal) e = rest M takes done o
tidy-try k now name names M takes done o rest (Ok c) e = tidy-go k now name names M takes done o rest c e (commit M.world.setting Server now c.commands M.world.store) refl

tidy-along : (k : Keeping) (now : ℕ) (names : List (List ℕ)) → Rest k now names
tidy-along k now [] M takes done o = retire-along M k takes now done
tidy-along k now (name ∷ names) M takes done o = tidy-try k now name names M takes done o (λ N left all p. tidy-along k now names N left all p) (switch M.world name) refl

-- one switch by name
switch-along : (M : Machine) (k : Keeping) (now : ℕ) (given : List ℕ) (r : Result SlotChange SlotRefusal) → Sound M.world → switch M.world given ≡ r → (name : List ℕ) (s : Slot) → begins_with_replacement name ≡ false
    → serving M.world.slots name ≡ Some s → StaysOrGoes M.world (Do (Switch given)) (settled M k (change_of_slots M.world now (Reply.Switched (last M.world.store + 1)) given r)) name s
switch-along M k now given (Err refusal) o e name s plain h = inl (still M.world name s h)
switch-along M k now given (Ok c) o e name s plain h = by (commit M.world.setting Server now c.commands M.world.store) refl
  where
    by : (r : Result Written Refused) → commit M.world.setting Server now c.commands M.world.store ≡ r
        → StaysOrGoes M.world (Do (Switch given)) (settled M k (rewrote M.world (Reply.Switched (last M.world.store + 1) c.name) c r)) name s
    by (Err refused) f = inl (still M.world name s h)
    by (Ok w) f = elim (is_taken k.takes w.rows) as (λ b. StaysOrGoes M.world (Do (Switch given)) (cond b (record {
      reply = Reply.Switched (last M.world.store + 1) c.name;
      machine = with_world M (changed M.world w.store c);
    }) (same_machine M (Reply.KeeperFault k.before k.after))) name s) [
      | true ↦ elim ((switch-one M.world given c w.store o e).step name s plain h) [
        | inl there ↦ inl (still (changed M.world w.store c) name s there)
        | inr was ↦ inr (inr (inr (record {
          before = M.world;
          after = changed M.world w.store c;
          earlier = LaterW-itself M.world;
          old = s;
          served = h;
          continues = record { number = refl; definition = refl; onward = omega arith; named = refl };
          switch = was;
          later = LaterW-itself (changed M.world w.store c);
        })))
      ]
      | false ↦ inl (still M.world name s h)
    ]

-- WORKERS

with_version-Continues : (W : World) (h : Held) (s x : Slot) → Sound W → IsHeld W h → Has W.slots s → s.number ≡ h.number → s.version.etag ≤ h.version.etag → Has W.slots x → Continues x (with_version h.number h.version x)
with_version-Continues W h s x o k at n le there =
    elim (x.number == h.number) as (λ b. (x.number == h.number) ≡ b → Continues x (cond b (record { number = x.number; name = x.name; version = h.version; row = x.row }) x)) [
      | true ↦ λ e.
          let is = eqb-true x.number h.number e in
          let one = one_number W x s o there at (is ∙ sym n) in
          record { number = refl; definition = k.same x there is; onward = let f = ap (λ (y : Slot). y.version.etag) one in omega arith; named = refl }
      | false ↦ λ e. record { number = refl; definition = refl; onward = omega arith; named = refl }
    ] refl

published-Stays : (W : World) (h : Held) (there : Option Slot) (V : World) → Sound W → IsHeld W h → numbered W.slots h.number ≡ there → published_in W h.number h.version there ≡ Ok V → Stays W V
published-Stays W h None V o k e f = absurd cc
published-Stays W h (Some t) V o k e f =
    let at = find-Has (λ x. x.number == h.number) W.slots t e in
    let put = with_version h.number h.version in
    elim (nat_lt t.version.etag h.version.etag) as (λ b. nat_lt t.version.etag h.version.etag ≡ b → cond b (put_in W h.number h.version) (Err (Passed t.version.etag)) ≡ Ok V → Stays W V) [
      | true ↦ λ lt g. subst (Stays W) (same_world (with_slots W (map put W.slots)) V (brought g)) (λ name s plain is. record {
        slot = put s;
        serves = serving-map put W.slots name s put-names is;
        continues = with_version-Continues W h t s o k at.0 (eqb-true t.number h.number at.1) (let less = ltb-true t.version.etag h.version.etag lt in omega arith) (served W.slots name s is).0;
      })
      | false ↦ λ lt g. absurd cc
    ] refl f
  where
    put-names : (x : Slot) → (with_version h.number h.version x).name ≡ x.name
    put-names x = elim (x.number == h.number) as (λ b. (cond b (record { number = x.number; name = x.name; version = h.version; row = x.row }) x).name ≡ x.name) [ true ↦ refl | false ↦ refl ]

    same_world : (A B : World) → (let r : Result World PublishRefusal = Ok A in r) ≡ Ok B → A ≡ B
    same_world A B g = cc

    brought : put_in W h.number h.version ≡ Ok V → (let r : Result World PublishRefusal = Ok (with_slots W (map (with_version h.number h.version) W.slots)) in r) ≡ Ok V
    brought g = elim (was_cleaned W.store h.version) as (λ c. cond c (Err (Cleaned W.store.cleaned)) (Ok (with_slots W (map (with_version h.number h.version) W.slots))) ≡ Ok V
        → (let r : Result World PublishRefusal = Ok (with_slots W (map (with_version h.number h.version) W.slots)) in r) ≡ Ok V) [
          | true ↦ λ f. absurd cc
          | false ↦ λ f. f
        ] g

publish-Stays : (M : Machine) (worker : ℕ) (there : Option Held) → IsMachine M → held_by M.held worker ≡ there → Stays M.world (publish_by M worker there).machine.world
publish-Stays M worker None i e = itself M.world
publish-Stays M worker (Some h) i e = by (published M.world h.number h.version) refl
  where
    by : (o : Result World PublishRefusal) → published M.world h.number h.version ≡ o
        → Stays M.world (publish_to M worker (published_reply h.version (numbered M.world.slots h.number)) o).machine.world
    by (Err refusal) f = itself M.world
    by (Ok V) f = published-Stays M.world h (numbered M.world.slots h.number) V i.world (i.held h (find-Has (λ x. x.worker == worker) M.held h e).0) refl f

-- ONE STEP

-- the requests after which a name may be served by another index, or by none
data Ends (r : Request) : Type 0 where
  removes : (name : List ℕ) → r ≡ Remove name → Ends r
  switches : (name : List ℕ) → r ≡ Switch name → Ends r
  tidies : r ≡ Tidy → Ends r

reslot-has : (r : Request) (W : World) (c : SlotChange) → Sound W → IsReslot r W c → HasServed W c ⊎ Ends r
reslot-has r W c o (IsReslot.defined name d is e) = inl (let x = define_named-Extends W name d c (record { store = o.store; within = o.numbers; rising = o.rising }) e in x.has)
reslot-has r W c o (IsReslot.made shape by e) = inl (define-has W (made_name W shape) (definition_of shape) c e)
reslot-has r W c o (IsReslot.removed name is e) = inr (removes name is)
reslot-has r W c o (IsReslot.switched name (inl is) e) = inr (switches name is)
reslot-has r W c o (IsReslot.switched name (inr is) e) = inr (tidies is)
reslot-has r W c o (IsReslot.retires is e) = inr (tidies is)

has-Stays : (W V : World) → ((name : List ℕ) (s : Slot) → begins_with_replacement name ≡ false → serving W.slots name ≡ Some s → serving V.slots name ≡ Some s) → Stays W V
has-Stays W V has name s plain h = still V name s (has name s plain h)

act-Stays : (now : ℕ) (r : Request) (W : World) (c : Change) → Sound W → IsAct now r W c → Stays W c.world ⊎ Ends r
act-Stays now r W c o (IsAct.writes w is e) = inl (subst (λ (x : Change). Stays W x.world) (sym e) (has-Stays W (in_world W w.store W.slots) (λ n x p g. g)))
act-Stays now r W c o (IsAct.reslots a) = elim (reslot-has r W a.slots o a.by) [
  | inl has ↦ inl (subst (λ (x : Change). Stays W x.world) (sym a.is) (has-Stays W (changed W a.written.store a.slots) has))
  | inr ends ↦ inr ends
]
act-Stays now r W c o (IsAct.advances max chosen e) = inl (subst (λ (x : Change). Stays W x.world) (sym e) (advanced-Stays W max chosen o))
act-Stays now r W c o (IsAct.cleans is e) = inl (subst (λ (x : Change). Stays W x.world) (sym e) (has-Stays W (cleaned_world W) (λ n x p g. g)))

Stays-then : (A B C : World) → Stays A B → Stays B C → Stays A C
Stays-then A B C f g name s plain h =
    let t = f name s plain h in
    let u = g name t.slot plain t.serves in
    record {
      slot = u.slot;
      serves = u.serves;
      continues = record {
        number = t.continues.number ∙ u.continues.number;
        definition = t.continues.definition ∙ u.continues.definition;
        onward = let a = t.continues.onward in let b = u.continues.onward in omega arith;
        named = t.continues.named ∙ u.continues.named;
      };
    }

-- what defines a part
part-Extends : (parts : List (List ℕ × Definition)) (W : World) (c : SlotChange) → AreNumbered W → IsReslot (Multi parts) W c → Extends W c
part-Extends parts W c n (IsReslot.defined name d is e) = define_named-Extends W name d c n e
part-Extends parts W c n (IsReslot.made shape (Makes.for_auto collection field is picks) e) = absurd cc
part-Extends parts W c n (IsReslot.made shape (Makes.for_ask ask is must) e) = absurd cc
part-Extends parts W c n (IsReslot.removed name is e) = absurd cc
part-Extends parts W c n (IsReslot.switched name (inl is) e) = absurd cc
part-Extends parts W c n (IsReslot.switched name (inr is) e) = absurd cc
part-Extends parts W c n (IsReslot.retires is e) = absurd cc

extended : (now : ℕ) (W : World) (c : SlotChange) (w : Written) → AreNumbered W → Extends W c → commit W.setting Server now c.commands W.store ≡ Ok w → AreNumbered (changed W w.store c)
extended now W c w n x is =
    let k = commit-Commits W.setting Server now c.commands W.store w n.store is in
    let l = k.later in record {
      store = k.sound;
      within = λ s h. elim (x.each s h) [
        | inl old ↦ (let a = n.within s old in let b = l.grown in omega arith)
        | inr new ↦ (let a = put-grows W.setting Server now c.commands W.store w n.store is new.0 in let e = new.1 in omega arith)
      ];
      rising = x.rising;
    }

-- each name goes on to be served while parts are defined
part-Stays : (now : ℕ) (parts : List (List ℕ × Definition)) (V : World) (c : Change) → AreNumbered V → Reslots now (Multi parts) V c → Stays V c.world × AreNumbered c.world
part-Stays now parts V c n a =
    let x = part-Extends parts V a.slots n a.by in (
      subst (λ (y : Change). Stays V y.world) (sym a.is) (has-Stays V (changed V a.written.store a.slots) x.has),
      subst (λ (y : Change). AreNumbered y.world) (sym a.is) (extended now V a.slots a.written n x a.commits),
    )

several-Stays : (now : ℕ) (r : Request) (W : World) (changes : List Change) → AreNumbered W → makes_several r ≡ true → AllDo (Reslots now r) W changes
    → AllLeave (Stays W) changes ⊎ Ends r
several-Stays now Tidy W changes n is all = inr (tidies refl)
several-Stays now (Multi parts) W changes n is all = inl (chain Stays Stays-then W W (itself W) changes
    (all-along (Reslots now (Multi parts)) (λ V c. Stays V c.world) AreNumbered (part-Stays now parts) W changes n all))
several-Stays now other W changes n is all = absurd cc

course-Stays : (now : ℕ) (r : Request) (W : World) (changes : List Change) → Sound W → AreActs now r W changes → AllLeave (Stays W) changes ⊎ Ends r
course-Stays now r W changes o (AreActs.none e) = inl (subst (AllLeave (Stays W)) (sym e) tt)
course-Stays now r W changes o (AreActs.one c act e) = elim (act-Stays now r W c o act) [
  | inl stays ↦ inl (subst (AllLeave (Stays W)) (sym e) (stays, tt))
  | inr ends ↦ inr ends
]
course-Stays now r W changes o (AreActs.several is all) = several-Stays now r W changes (record { store = o.store; within = o.numbers; rising = o.rising }) is all

-- what becomes of a name at a request
abbrev ServedBy : Machine → Keeping → ℕ → Request → List ℕ → Slot → Type 0
ServedBy M k now r name s = StaysOrGoes M.world (Do r) (settled M k (course_of M.world now r)) name s

ended : (M : Machine) (k : Keeping) (now : ℕ) (r : Request) → Ends r → Sound M.world → (name : List ℕ) (s : Slot) → begins_with_replacement name ≡ false
    → serving M.world.slots name ≡ Some s → ServedBy M k now r name s
ended M k now r (removes given is) o name s plain h =
    subst (λ q. ServedBy M k now q name s) (sym is) (remove-answered M k now given (serving M.world.slots given) o refl name s plain h)
ended M k now r (switches given is) o name s plain h = subst (λ q. ServedBy M k now q name s) (sym is) (switch-along M k now given (switch M.world given) o refl name s plain h)
ended M k now r (tidies is) o name s plain h = subst (λ q. ServedBy M k now q name s) (sym is) (tidy-along k now (replaced_names M.world) M k.takes [] o name s plain h)

pub step-served : (M : Machine) (k : Keeping) (now : ℕ) (line : Line) → IsMachine M → ServedStays M k now line
step-served M k now (Do request) i name s plain h =
    let course = course_of M.world now request in
    elim (course-Stays now request M.world course.changes i.world (course-acts M.world now request)) [
      | inl all ↦ inl (settled-Stays M k course all name s plain h)
      | inr ends ↦ ended M k now request ends i.world name s plain h
    ]
step-served M k now (Read worker max index) i name s plain h =
    inl (subst (λ (W : World). StillServes W name s) (sym (read-world M worker max index (serving M.world.slots index))) (still M.world name s h))
step-served M k now (Publish worker) i name s plain h = inl (publish-Stays M worker (held_by M.held worker) i refl name s plain h)
