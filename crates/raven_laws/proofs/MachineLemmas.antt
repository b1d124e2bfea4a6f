-- Each step of the machine leaves a sound and later world.
use Rattle.std.proofs.Common.{◌≡◌, ℕ, ◌≤◌, List, [], ◌∷◌, ◌++◌, Bool, not, ◌==◌, nat_lt, Option, Some, None, Result, Ok, Err, map, refl, sym, ap, ◌∙◌, subst, arith, inl, inr, true, false, cond}
use Rattle.std.proofs.lemmas.Bool.{eqb-true, ltb-true}
use Rattle.spec_data.specs.Folding.{folded, same_key}
use Rattle.spec_store.specs.Commit.{Setting}
use Rattle.spec_server.specs.Replies as replies
use Rattle.spec_index.specs.World.{Slot, Version, World, batch, numbered, serving, is_automatic}
use Rattle.spec_server.specs.Requests.{Event, Keeping, Line, Do, Read, Publish, IsFromClient, AreFromClients}
use Rattle.spec_server.specs.Courses.{Machine, Held, Change, Course, is_taken, takes_after, with_world, same_machine, made, settled, with_slots}
use Rattle.spec_server.specs.Workers.{PublishRefusal, Passed, Cleaned, was_cleaned, put_in, held_by, let_go, with_held, read_at, read_batch, published, published_in, published_reply, publish_by, publish_to, with_version}
use Rattle.spec_server.specs.Machine.{course_of, changes_of, step, start, after, run}
use Rattle.spec_server.specs.Sound.{Has, Fits, Sound, IsHeld, IsMachine, LaterW}
use Rattle.spec_store.proofs.StoreLemmas.{IsStore-of}
use Rattle.spec_store.proofs.LaterLemmas.{Later-itself}
use Rattle.raven_laws.proofs.Acts.{AllLeave}
use Rattle.raven_laws.proofs.Moving.{AllMove, Moves, Moves-then, Shifts-Moves, course-Moves}
pub use Rattle.raven_laws.proofs.Moving.{clean-within, cleaned-Moves}
use Rattle.raven_laws.proofs.SlotLemmas.{Brought, Fits-still, StillFits-later, StillFits-Fits, Has-append, Has-filter, Has-map, find-Has, HaveTheirSlots-map, NumbersRise-map, NamesApart-map, batch-Brought, same_slot}
use Rattle.raven_laws.proofs.ListedLemmas.{map-AreListed}
use Rattle.raven_laws.proofs.LimitLemmas.{length_mapped}
use Rattle.raven_laws.proofs.WorldLemmas.{LaterW-itself, LaterW-then, Comes, stays}

moved-to : (W : World) (changes : List Change) (c : Change) → AllMove W changes → Has changes c → Moves W c.world
moved-to W [] c all h = absurd h
moved-to W (x ∷ more) c all (inl e) = subst (λ (y : Change). Moves W y.world) e all.0
moved-to W (x ∷ more) c all (inr h) = Moves-then W x.world c.world all.0 (moved-to x.world more c all.1 h)

-- each change of a line leads from a sound world to a sound and later one
pub changes-Move : (W : World) (now : ℕ) (line : Line) (c : Change) → Sound W → IsFromClient line → Has (changes_of W now line) c → Moves W c.world
changes-Move W now (Do request) c o from h = let course = course_of W now request in moved-to W course.changes c (course-Moves W now request from o) h
changes-Move W now (Read worker max index) c o from h = absurd h
changes-Move W now (Publish worker) c o from h = absurd h

-- HELD BATCHES

-- a batch that was just read may be published
pub batch-IsHeld : (W : World) (worker : ℕ) (s : Slot) (v : Version) (max : ℕ) → Sound W → Has W.slots s → batch s.version W.store max ≡ Some v
    → IsHeld W (record { worker = worker; number = s.number; version = v })
batch-IsHeld W worker s v max o h is = record {
  fits = Fits-still W.store v b.fits;
  since = let e = b.cleaned in omega arith;
  within = o.numbers s h;
  same = λ x there k. ap (λ (y : Slot). y.version.definition) (same_slot 0 W.slots x s o.rising there h k) ∙ b.definition;
}
  where
    b : Brought W.store s.version v
    b = batch-Brought W.store s.version v max o.store (o.fits s h) is

-- and also in every later world
pub IsHeld-later : (W N : World) (h : Held) → IsHeld W h → LaterW W N → IsHeld N h
IsHeld-later W N h i l = record {
  fits = StillFits-later W.store N.store h.version i.fits i.since l.store;
  since = let a = i.since in let l = l.store in let b = l.cleaned in omega arith;
  within = let a = i.within in let b = l.store in let c = b.grown in omega arith;
  same = λ s at e. elim (l.numbers s at) [
    | inl w ↦ let k = w.2 in sym k.definition ∙ i.same w.0 w.1 (k.number ∙ e)
    | inr new ↦ absurd (let a = i.within in omega arith)
  ];
}

-- RUNS

-- from one state of the machine to a later one
pub record Steps (M N : Machine) : Type 0 where
  pub machine : IsMachine N
  pub later : LaterW M.world N.world

pub Steps-itself : (M : Machine) → IsMachine M → Steps M M
Steps-itself M i = record { machine = i; later = LaterW-itself M.world }

pub Steps-then : (M N P : Machine) → Steps M N → Steps N P → Steps M P
Steps-then M N P f g = record { machine = g.machine; later = LaterW-then M.world N.world P.world f.later g.later }

Steps-to : (M : Machine) (W : World) → IsMachine M → Moves M.world W → Steps M (with_world M W)
Steps-to M W i m = record {
  machine = record { world = m.sound; held = λ h has. IsHeld-later M.world W h (i.held h has) m.later };
  later = m.later;
}

-- A PUBLICATION

-- the version of a held batch takes the place of that of its index
further-Comes : (W : World) (x : Slot) (v : Version) → Sound W → Has W.slots x → Fits W.store v → x.version.definition ≡ v.definition → x.version.etag ≤ v.etag
    → Comes W W.store [] (record { number = x.number; name = x.name; version = v; row = x.row })
further-Comes W x v o h f d le = record {
  fits = f;
  within = o.numbers x h;
  old = inl (x, h, record { number = refl; definition = d; onward = le; named = refl });
  named = inl (x, h, refl, refl);
  kind = ap is_automatic (sym d) ∙ o.kinds x h;
}

module _ (W : World) (h : Held) (o : Sound W) (k : IsHeld W h) where
  abbrev put : Slot → Slot
  put = with_version h.number h.version

  put-number : (x : Slot) → (put x).number ≡ x.number
  put-number x = elim (x.number == h.number) as (λ b. (cond b (record { number = x.number; name = x.name; version = h.version; row = x.row }) x).number ≡ x.number) [ true ↦ refl | false ↦ refl ]

  put-name : (x : Slot) → (put x).name ≡ x.name
  put-name x = elim (x.number == h.number) as (λ b. (cond b (record { number = x.number; name = x.name; version = h.version; row = x.row }) x).name ≡ x.name) [ true ↦ refl | false ↦ refl ]

  put-row : (x : Slot) → (put x).row ≡ x.row
  put-row x = elim (x.number == h.number) as (λ b. (cond b (record { number = x.number; name = x.name; version = h.version; row = x.row }) x).row ≡ x.row) [ true ↦ refl | false ↦ refl ]

  put-definition : (x : Slot) → Has W.slots x → (put x).version.definition ≡ x.version.definition
  put-definition x there = elim (x.number == h.number) as (λ b. (x.number == h.number) ≡ b → (cond b (record { number = x.number; name = x.name; version = h.version; row = x.row }) x).version.definition ≡ x.version.definition) [
    | true ↦ λ e. sym (k.same x there (eqb-true x.number h.number e))
    | false ↦ λ e. refl
  ] refl

  put-Comes : (s x : Slot) → Fits W.store h.version → Has W.slots s → s.number ≡ h.number → s.version.etag ≤ h.version.etag → Has W.slots x → Comes W W.store [] (put x)
  put-Comes s x fits at n le there = elim (x.number == h.number) as (λ b. (x.number == h.number) ≡ b → Comes W W.store [] (cond b (record { number = x.number; name = x.name; version = h.version; row = x.row }) x)) [
    | true ↦ λ e.
        let is = eqb-true x.number h.number e in
        let one = same_slot 0 W.slots x s o.rising there at (is ∙ sym n) in
        further-Comes W x h.version o there fits (k.same x there is) (let f = ap (λ (y : Slot). y.version.etag) one in omega arith)
    | false ↦ λ e. stays W W.store [] x o (Later-itself W.store) (omega arith) there
  ] refl

  put-Moves : (s : Slot) → Fits W.store h.version → Has W.slots s → s.number ≡ h.number → s.version.etag ≤ h.version.etag → Moves W (with_slots W (map put W.slots))
  put-Moves s fits at n le = Shifts-Moves W W.store (map put W.slots) o (record {
    store = o.store;
    later = Later-itself W.store;
    comes = λ y g. let x = Has-map put W.slots y g in subst (Comes W W.store []) x.2 (put-Comes s x.0 fits at n le x.1);
    rising = NumbersRise-map 0 put W.slots put-number o.rising;
    apart = NamesApart-map put W.slots put-name o.apart;
    beside = HaveTheirSlots-map put W.slots put-name o.beside;
    listed = map-AreListed W.store put W.slots (λ x g. (put-name x, put-row x, put-definition x g)) o.listed;
    rows = o.limits.rows;
    count = let a = length_mapped put W.slots in let b = o.limits.slots in omega arith;
    etags = o.limits.etags;
  })

  pub published-Moves : (V : World) → published W h.number h.version ≡ Ok V → Moves W V
  published-Moves V is = by (numbered W.slots h.number) refl is
    where
      same_world : (A B : World) → (let r : Result World PublishRefusal = Ok A in r) ≡ Ok B → A ≡ B
      same_world A B e = cc

      by : (there : Option Slot) → numbered W.slots h.number ≡ there → published_in W h.number h.version there ≡ Ok V → Moves W V
      by None e g = absurd cc
      by (Some s) e g =
          let at = find-Has (λ x. x.number == h.number) W.slots s e in
          elim (nat_lt s.version.etag h.version.etag) as (λ b. nat_lt s.version.etag h.version.etag ≡ b
          → cond b (put_in W h.number h.version) (Err (Passed s.version.etag)) ≡ Ok V → Moves W V) [
            | true ↦ λ t f. elim (was_cleaned W.store h.version) as (λ c. was_cleaned W.store h.version ≡ c → cond c (Err (Cleaned W.store.cleaned)) (Ok (with_slots W (map put W.slots))) ≡ Ok V → Moves W V) [
              | true ↦ λ past q. absurd cc
              | false ↦ λ past q. subst (Moves W) (same_world (with_slots W (map put W.slots)) V q)
                  (put-Moves s (StillFits-Fits W.store h.version k.fits past) at.0 (eqb-true s.number h.number at.1) (let lt = ltb-true s.version.etag h.version.etag t in omega arith))
            ] refl f
            | false ↦ λ t f. absurd cc
          ] refl g

-- WORKERS

-- a worker lets its batch go
let_go-Steps : (M : Machine) (worker : ℕ) → IsMachine M → Steps M (let_go M worker)
let_go-Steps M worker i = record {
  machine = record { world = i.world; held = λ h has. i.held h (Has-filter (λ x. not (x.worker == worker)) M.held h has) };
  later = LaterW-itself M.world;
}

with_held-Steps : (M : Machine) (h : Held) → IsMachine M → IsHeld M.world h → Steps M (with_held M h)
with_held-Steps M h i is = record {
  machine = record {
    world = i.world;
    held = λ x has. elim (Has-append (let_go M h.worker).held (h ∷ []) x has) [
      | inl old ↦ i.held x (Has-filter (λ y. not (y.worker == h.worker)) M.held x old)
      | inr (inl e) ↦ subst (IsHeld M.world) e is
      | inr (inr no_more) ↦ absurd no_more
    ];
  };
  later = LaterW-itself M.world;
}

read_batch-Steps : (M : Machine) (worker max : ℕ) (s : Slot) (v : Option Version) → IsMachine M → Has M.world.slots s → batch s.version M.world.store max ≡ v → Steps M (read_batch M worker s v).machine
read_batch-Steps M worker max s None i h e = let_go-Steps M worker i
read_batch-Steps M worker max s (Some v) i h e = with_held-Steps M (record { worker = worker; number = s.number; version = v }) i (batch-IsHeld M.world worker s v max i.world h e)

read-Steps : (M : Machine) (worker max : ℕ) (index : List ℕ) (there : Option Slot) → IsMachine M → serving M.world.slots index ≡ there → Steps M (read_at M worker max index there).machine
read-Steps M worker max index None i e = Steps-itself M i
read-Steps M worker max index (Some s) i e =
    read_batch-Steps M worker max s (batch s.version M.world.store max) i (find-Has (λ x. same_key (folded index) (folded x.name)) M.world.slots s e).0 refl

publish_to-Steps : (M : Machine) (worker : ℕ) (h : Held) (reply : replies.Reply) (o : Result World PublishRefusal) → IsMachine M → Has M.held h
    → published M.world h.number h.version ≡ o → Steps M (publish_to M worker reply o).machine
publish_to-Steps M worker h reply (Err refusal) i has e = let_go-Steps M worker i
publish_to-Steps M worker h reply (Ok V) i has e =
    let free = let_go-Steps M worker i in
    Steps-then M (let_go M worker) (with_world (let_go M worker) V) free (Steps-to (let_go M worker) V free.machine (published-Moves M.world h i.world (i.held h has) V e))

publish-Steps : (M : Machine) (worker : ℕ) (there : Option Held) → IsMachine M → held_by M.held worker ≡ there → Steps M (publish_by M worker there).machine
publish-Steps M worker None i e = Steps-itself M i
publish-Steps M worker (Some h) i e =
    publish_to-Steps M worker h (published_reply h.version (numbered M.world.slots h.number)) (published M.world h.number h.version) i (find-Has (λ x. x.worker == worker) M.held h e).0 refl

-- what a worker reads changes no world, and what it publishes no store
pub read-world : (M : Machine) (worker max : ℕ) (index : List ℕ) (there : Option Slot) → (read_at M worker max index there).machine.world ≡ M.world
read-world M worker max index None = refl
read-world M worker max index (Some s) = by (batch s.version M.world.store max)
  where
    by : (v : Option Version) → (read_batch M worker s v).machine.world ≡ M.world
    by None = refl
    by (Some v) = refl

published-store : (W : World) (n : ℕ) (v : Version) (there : Option Slot) (V : World) → published_in W n v there ≡ Ok V → V.store ≡ W.store
published-store W n v None V h = absurd cc
published-store W n v (Some s) V h = elim (nat_lt s.version.etag v.etag) as (λ b. cond b (put_in W n v) (Err (Passed s.version.etag)) ≡ Ok V → V.store ≡ W.store) [
  | true ↦ λ e. elim (was_cleaned W.store v) as (λ c. cond c (Err (Cleaned W.store.cleaned)) (Ok (with_slots W (map (with_version n v) W.slots))) ≡ Ok V → V.store ≡ W.store) [
    | true ↦ λ f. absurd cc
    | false ↦ λ f. sym (ap (λ (X : World). X.store) (same_world (with_slots W (map (with_version n v) W.slots)) V f))
  ] e
  | false ↦ λ e. absurd cc
] h
  where
    same_world : (A B : World) → (let r : Result World PublishRefusal = Ok A in r) ≡ Ok B → A ≡ B
    same_world A B e = cc

pub publish-store : (M : Machine) (worker : ℕ) (there : Option Held) → (publish_by M worker there).machine.world.store ≡ M.world.store
publish-store M worker None = refl
publish-store M worker (Some h) = by (published M.world h.number h.version) refl
  where
    by : (o : Result World PublishRefusal) → published M.world h.number h.version ≡ o
        → (publish_to M worker (published_reply h.version (numbered M.world.slots h.number)) o).machine.world.store ≡ M.world.store
    by (Err refusal) e = refl
    by (Ok V) e = published-store M.world h.number h.version (numbered M.world.slots h.number) V e

-- whatever the keeper does, the world that is left is the one before or that of a change
pub made-leaves : (P : World → Type 0) (k : Keeping) (M : Machine) (takes : List Bool) (changes : List Change) (reply : replies.Reply) → P M.world → AllLeave P changes
    → P (made k M takes changes reply).machine.world
made-leaves P k M takes [] reply p all = p
made-leaves P k M takes (c ∷ more) reply p all =
    let rest = made-leaves P k (with_world M c.world) (takes_after c.rows takes) more reply all.0 all.1 in
    elim (is_taken takes c.rows) as (λ b. P (cond b (made k (with_world M c.world) (takes_after c.rows takes) more reply) (same_machine M (replies.KeeperFault k.before k.after))).machine.world) [
      | true ↦ rest
      | false ↦ p
    ]

pub settled-leaves : (P : World → Type 0) (M : Machine) (k : Keeping) (c : Course) → P M.world → AllLeave P c.changes → P (settled M k c).machine.world
settled-leaves P M k c p all = made-leaves P k M k.takes c.changes c.reply p all

made-Steps : (k : Keeping) (M : Machine) (takes : List Bool) (changes : List Change) (reply : replies.Reply) → IsMachine M → AllMove M.world changes → Steps M (made k M takes changes reply).machine
made-Steps k M takes [] reply i all = Steps-itself M i
made-Steps k M takes (c ∷ more) reply i all =
    let one = Steps-to M c.world i all.0 in
    let rest = made-Steps k (with_world M c.world) (takes_after c.rows takes) more reply one.machine all.1 in
    elim (is_taken takes c.rows) as (λ b.
    Steps M (cond b (made k (with_world M c.world) (takes_after c.rows takes) more reply) (same_machine M (replies.KeeperFault k.before k.after))).machine) [
      | true ↦ Steps-then M (with_world M c.world) (made k (with_world M c.world) (takes_after c.rows takes) more reply).machine one rest
      | false ↦ Steps-itself M i
    ]

pub step-Steps : (M : Machine) (k : Keeping) (now : ℕ) (line : Line) → IsFromClient line → IsMachine M → Steps M (step M k now line).machine
step-Steps M k now (Do request) from i =
    let course = course_of M.world now request in made-Steps k M k.takes course.changes course.reply i (course-Moves M.world now request from i.world)
step-Steps M k now (Read worker max index) from i = read-Steps M worker max index (serving M.world.slots index) i refl
step-Steps M k now (Publish worker) from i = publish-Steps M worker (held_by M.held worker) i refl

pub run-Steps : (es : List Event) (M : Machine) → AreFromClients es → IsMachine M → Steps M (run es M)
run-Steps [] M from i = Steps-itself M i
run-Steps (e ∷ es) M from i =
    let one = step-Steps M e.keeping e.now e.line from.0 i in Steps-then M (after M e) (run es (after M e)) one (run-Steps es (after M e) from.1 one.machine)

pub start-IsMachine : (setting : Setting) → IsMachine (start setting)
start-IsMachine setting = record { world = start-Sound setting; held = λ h has. absurd has }
  where
    start-Sound : (setting : Setting) → Sound (start setting).world
    start-Sound setting = record {
      store = IsStore-of [] tt tt;
      fits = λ s h. absurd h;
      numbers = λ s h. absurd h;
      rising = tt;
      apart = λ s t h. absurd h;
      kinds = λ s h. absurd h;
      beside = λ s h. absurd h;
      listed = record { each = λ s h. absurd h; only = λ q r h. absurd (let e = h in cc) };
      notes = λ n h. absurd h;
      limits = record { rows = omega arith; slots = omega arith; notes = omega arith; etags = omega arith };
    }

pub run-IsMachine : (setting : Setting) (es : List Event) → AreFromClients es → IsMachine (run es (start setting))
run-IsMachine setting es from = let m = run-Steps es (start setting) from (start-IsMachine setting) in m.machine

pub run-Sound : (setting : Setting) (es : List Event) → AreFromClients es → Sound (run es (start setting)).world
run-Sound setting es from = let m = run-IsMachine setting es from in m.world

pub run-append : (es fs : List Event) (M : Machine) → run (es ++ fs) M ≡ run fs (run es M)
run-append [] fs M = refl
run-append (e ∷ es) fs M = run-append es fs (after M e)

-- of events from clients, the first ones are from clients, and so are those after them
pub clients-append : (es fs : List Event) → AreFromClients (es ++ fs) → AreFromClients es × AreFromClients fs
clients-append [] fs from = (tt, from)
clients-append (e ∷ es) fs from = let rest = clients-append es fs from.1 in ((from.0, rest.0), rest.1)

pub run-LaterW : (setting : Setting) (es fs : List Event) → AreFromClients (es ++ fs) → LaterW (run es (start setting)).world (run (es ++ fs) (start setting)).world
run-LaterW setting es fs from =
    let both = clients-append es fs from in
    let n = run-Steps fs (run es (start setting)) both.1 (run-IsMachine setting es both.0) in
    subst (λ (N : Machine). LaterW (run es (start setting)).world N.world) (sym (run-append es fs (start setting))) n.later
