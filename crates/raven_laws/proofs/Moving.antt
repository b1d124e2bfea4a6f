-- Each change of a client's request leads from a sound world to a sound and later one, shown of each kind of change.
use Rattle.std.proofs.Common.{◌≡◌, ℕ, ◌+◌, ◌<◌, ◌≤◌, List, [], ◌∷◌, ◌++◌, Bool, not, nat_lt, length, Some, None, Ok, map, refl, sym, ap, ◌∙◌, subst, arith, ◌⊎◌, inl, inr, true, false, cond, ◌-◌, min}
use Rattle.std.proofs.lemmas.Bool.{ltb-true, ltb-false}
use Rattle.spec_data.specs.Folding.{folded}
use Rattle.spec_data.specs.Rows.{Row}
use Rattle.spec_store.specs.Store.{Store, last, IsStore}
use Rattle.spec_store.specs.Later.{Later}
use Rattle.spec_store.specs.Cleaning.{clean, is_old_tombstone}
use Rattle.spec_store.specs.Stale.{batch_rows}
use Rattle.index_tree.specs.Definitions.{Definition}
use Rattle.spec_index.specs.Index.{etag_of_batch}
use Rattle.spec_index.specs.Optimiser.{Shape, definition_of}
use Rattle.spec_store.specs.Commit.{Command, Put, Delete, Writer, Client, Server, Setting, Written, refusal_of, row_of, with_written, or_refused, commit_from, commit}
use Rattle.spec_index.specs.Cleaning.{clean_upto, cleaned_world, etags_reached, least}
use Rattle.spec_index.specs.World.{Slot, Note, World, index_id, reads, advanced, batch, SlotChange, is_automatic}
use Rattle.spec_server.specs.Requests.{Request, Tidy, Do, IsFromClient, commands_in}
use Rattle.spec_server.specs.Courses.{Change, Course, changed, in_world, with_slots}
use Rattle.spec_server.specs.Indexing.{make, made_name, tidy}
use Rattle.spec_server.specs.Batches.{or_as_before, after_batch}
use Rattle.spec_server.specs.Machine.{course_of}
use Rattle.spec_server.specs.Sound.{Has, Fits, NumbersRise, NamesApart, HaveTheirSlots, AreListed, IsWithinLimits, Sound, LaterW}
use Rattle.spec_store.proofs.LaterLemmas.{Later-itself, IsStore-with, last-with}
use Rattle.spec_store.proofs.CommitLemmas.{row_of-follows, commit-Commits, Commits-cleaned}
use Rattle.spec_store.proofs.CleanLemmas.{IsStore-clean, Later-clean, last-clean, clean-cases, clean-iff, clean-rows, document_stays}
use Rattle.raven_laws.proofs.Acts.{AllDo, Defines, IsAct, IsReslot, Reslots, advanced_by, batch_if, all-acts, all-along, all-weaker, course-acts, tidy-acts}
use Rattle.raven_laws.proofs.SlotLemmas.{Fits-later, Fits-unread, Has-append, Has-map, HaveTheirSlots-map, NumbersRise-map, NamesApart-map, batch-Brought, none_passes}
use Rattle.raven_laws.proofs.ListedLemmas.{body-live, commit_from-applied, clients-AreListed, map-AreListed}
use Rattle.raven_laws.proofs.KindLemmas.{auto-no-replacement, definition_of-automatic, name_of-begins}
use Rattle.raven_laws.proofs.LimitLemmas.{commit_from-fits, commit_from-last, length_mapped, length_filtered}
use Rattle.raven_laws.proofs.WorldLemmas.{append-none, LaterW-itself, LaterW-then, Comes, stays, StartsWithPut, Onto, Settles, SuitsName, define-Settles, define_named-Settles, remove-Settles, switch-Settles, retirement-Settles}

-- from a sound world to a sound and later one
pub record Moves (W V : World) : Type 0 where
  pub sound : Sound V
  pub later : LaterW W V

pub Moves-itself : (W : World) → Sound W → Moves W W
Moves-itself W o = record { sound = o; later = LaterW-itself W }

pub Moves-then : (W V X : World) → Moves W V → Moves V X → Moves W X
Moves-then W V X f g = record { sound = g.sound; later = LaterW-then W V X f.later g.later }

-- what has to be proved of a change of the world
pub record Turns (W V : World) : Type 0 where
  pub store : IsStore V.store
  pub later : Later W.store V.store
  pub setting : V.setting ≡ W.setting
  pub noted : List Note
  pub notes : V.notes ≡ W.notes ++ noted
  pub fair : (n : Note) → Has noted n → (n.newest ≤ n.index_etag) × (n.etag ≤ last V.store)
  pub comes : (s : Slot) → Has V.slots s → Comes W V.store noted s
  pub rising : NumbersRise 0 V.slots
  pub apart : NamesApart V.slots
  pub beside : HaveTheirSlots V.slots
  pub listed : AreListed V.store V.slots
  pub limits : IsWithinLimits V

pub Turns-Moves : (W V : World) → Sound W → Turns W V → Moves W V
Turns-Moves W V o t = record {
  sound = record {
    store = t.store;
    fits = λ s h. let c = t.comes s h in c.fits;
    numbers = λ s h. let c = t.comes s h in c.within;
    rising = t.rising;
    apart = t.apart;
    kinds = λ s h. let c = t.comes s h in c.kind;
    beside = t.beside;
    listed = t.listed;
    notes = λ n h. elim (Has-append W.notes t.noted n (subst (λ (ns : List Note). Has ns n) t.notes h)) [
      | inl old ↦ let f = o.notes n old in (f.0, let a = f.1 in let b = t.later.grown in omega arith)
      | inr new ↦ t.fair n new
    ];
    limits = t.limits;
  };
  later = record {
    store = t.later;
    setting = t.setting;
    noted = t.noted;
    notes = t.notes;
    numbers = λ s h. let c = t.comes s h in c.old;
    names = λ s h. let c = t.comes s h in c.named;
  };
}

-- a change of the store and of the slots, without a note
pub record Shifts (W : World) (S : Store) (slots : List Slot) : Type 0 where
  pub store : IsStore S
  pub later : Later W.store S
  pub comes : (s : Slot) → Has slots s → Comes W S [] s
  pub rising : NumbersRise 0 slots
  pub apart : NamesApart slots
  pub beside : HaveTheirSlots slots
  pub listed : AreListed S slots
  pub rows : length S.rows ≤ W.setting.max_rows
  pub count : length slots ≤ W.setting.max_slots
  pub etags : last S ≤ 9007199254740991

pub Shifts-Moves : (W : World) (S : Store) (slots : List Slot) → Sound W → Shifts W S slots → Moves W (in_world W S slots)
Shifts-Moves W S slots o t = Turns-Moves W (in_world W S slots) o (record {
  store = t.store;
  later = t.later;
  setting = refl;
  noted = [];
  notes = append-none W.notes;
  fair = λ n h. absurd h;
  comes = t.comes;
  rising = t.rising;
  apart = t.apart;
  beside = t.beside;
  listed = t.listed;
  limits = record { rows = t.rows; slots = t.count; notes = o.limits.notes; etags = t.etags };
})

-- each of the changes leads from a sound world to a sound and later one
abbrev pub AllMove : World → List Change → Type 0
AllMove W changes = AllDo (λ V c. Moves V c.world) W changes

abbrev pub CourseMoves : World → Course → Type 0
CourseMoves W course = AllMove W course.changes

-- WRITES

written-Moves : (now : ℕ) (W : World) (commands : List Command) (w : Written) → Sound W → commit W.setting Client now commands W.store ≡ Ok w → Moves W (in_world W w.store W.slots)
written-Moves now W commands w o is =
    let c = commit-Commits W.setting Client now commands W.store w o.store is in
    Shifts-Moves W w.store W.slots o (record {
      store = c.sound;
      later = c.later;
      comes = λ s h. stays W w.store [] s o c.later (let e = Commits-cleaned W.store w c in omega arith) h;
      rising = o.rising;
      apart = o.apart;
      beside = o.beside;
      listed = clients-AreListed 0 W.setting now commands _ w W.slots is o.listed;
      rows = commit_from-fits 0 W.setting Client now commands _ w o.limits.rows is;
      count = o.limits.slots;
      etags = commit_from-last 0 W.setting Client now commands _ w o.limits.etags is;
    })

-- CHANGES OF INDEXES

commit_from-grows : (at : ℕ) (s : Setting) (w : Writer) (now : ℕ) (cs : List Command) (done new : Written) → IsStore done.store → commit_from at s w now cs done ≡ Ok new → last done.store ≤ last new.store
commit_from-grows at s w now [] done new o h = let same : done ≡ new = cc in let e = ap (λ (x : Written). last x.store) same in omega arith
commit_from-grows at s w now (c ∷ cs) done new o h =
    elim (refusal_of s w done.store c) as (λ r. refusal_of s w done.store c ≡ r → or_refused r at (commit_from (at + 1) s w now cs (with_written (row_of now done.store c) done)) ≡ Ok new → last done.store ≤ last new.store) [
      | None ↦ λ e g. elim (row_of now done.store c) as (λ r. row_of now done.store c ≡ r → commit_from (at + 1) s w now cs (with_written r done) ≡ Ok new → last done.store ≤ last new.store) [
        | None ↦ λ f k. commit_from-grows (at + 1) s w now cs done new o k
        | Some r ↦ λ f k.
            let m = row_of-follows s w now done.store c r e f in
            let rest = commit_from-grows (at + 1) s w now cs (with_written (Some r) done) new (IsStore-with done.store r o m) k in
            let a = last-with done.store r in let b = m.next in omega arith
      ] refl g
      | Some kind ↦ λ e g. absurd cc
    ] refl h

pub put-grows : (s : Setting) (w : Writer) (now : ℕ) (cs : List Command) (S : Store) (new : Written) → IsStore S → commit s w now cs S ≡ Ok new → StartsWithPut cs → last S < last new.store
put-grows s w now [] S new o h p = absurd p
put-grows s w now (Delete id expected ∷ cs) S new o h p = absurd p
put-grows s w now (Put id expected body ∷ cs) S new o h p =
    elim (refusal_of s w S (Put id expected body)) as (λ r. refusal_of s w S (Put id expected body) ≡ r → or_refused r 0 (commit_from (0 + 1) s w now cs (with_written (row_of now S (Put id expected body)) (record { store = S; rows = [] }))) ≡ Ok new → last S < last new.store) [
      | None ↦ λ e g. elim (row_of now S (Put id expected body)) as (λ r. row_of now S (Put id expected body) ≡ r → commit_from (0 + 1) s w now cs (with_written r (record { store = S; rows = [] })) ≡ Ok new → last S < last new.store) [
        | None ↦ λ f k. absurd cc
        | Some r ↦ λ f k.
            let m = row_of-follows s w now S (Put id expected body) r e f in
            let rest = commit_from-grows (0 + 1) s w now cs (with_written (Some r) (record { store = S; rows = [] })) new (IsStore-with S r o m) k in
            let a = last-with S r in let b = m.next in omega arith
      ] refl g
      | Some kind ↦ λ e g. absurd cc
    ] refl h

changed-Moves : (now : ℕ) (W : World) (c : SlotChange) (w : Written) → Sound W → ((S : Store) → Onto W c S → Settles W c S)
    → commit W.setting Server now c.commands W.store ≡ Ok w → Moves W (changed W w.store c)
changed-Moves now W c w o by is =
    let k = commit-Commits W.setting Server now c.commands W.store w o.store is in
    let t = by w.store (record {
      store = k.sound;
      later = k.later;
      same = let e = Commits-cleaned W.store w k in omega arith;
      grown = put-grows W.setting Server now c.commands W.store w o.store is;
      now = now;
      written = commit_from-applied 0 W.setting Server now c.commands _ w is;
    }) in
    Turns-Moves W (changed W w.store c) o (record {
      store = k.sound;
      later = k.later;
      setting = refl;
      noted = t.noted;
      notes = t.notes;
      fair = t.fair;
      comes = t.slots;
      rising = t.rising;
      apart = t.apart;
      beside = t.beside;
      listed = t.listed;
      limits = record {
        rows = commit_from-fits 0 W.setting Server now c.commands _ w o.limits.rows is;
        slots = t.count;
        notes = t.paper;
        etags = commit_from-last 0 W.setting Server now c.commands _ w o.limits.etags is;
      };
    })

-- a new automatic index suits its name
pub made-suits : (W : World) (shape : Shape) → SuitsName (made_name W shape) (definition_of shape)
made-suits W shape =
    let begins = name_of-begins W.slots (last W.store + 1) shape in
    record { kind = definition_of-automatic shape ∙ sym begins; plain = auto-no-replacement (made_name W shape) begins }

made-Settles : (W : World) (shape : Shape) (c : SlotChange) → make W shape ≡ Ok c → Sound W → (S : Store) → Onto W c S → Settles W c S
made-Settles W shape = define-Settles W (made_name W shape) (definition_of shape) (made-suits W shape)

pub made-Moves : (now : ℕ) (W : World) (shape : Shape) (c : SlotChange) (w : Written) → Sound W → make W shape ≡ Ok c
    → commit W.setting Server now c.commands W.store ≡ Ok w → Moves W (changed W w.store c)
made-Moves now W shape c w o e = changed-Moves now W c w o (made-Settles W shape c e o)

-- what a client may ask to define is not automatic
pub defines-client : (r : Request) (name : List ℕ) (d : Definition) → IsFromClient (Do r) → Defines r name d → is_automatic d ≡ false
defines-client r name d from (Defines.alone is) = subst (λ (q : Request). IsFromClient (Do q)) is from
defines-client r name d from (Defines.among parts is at) =
    none_passes (λ (p : List ℕ × Definition). is_automatic p.1) parts (name, d) (subst (λ (q : Request). IsFromClient (Do q)) is from) at

reslot-Settles : (r : Request) (W : World) (c : SlotChange) → IsFromClient (Do r) → IsReslot r W c → Sound W → (S : Store) → Onto W c S → Settles W c S
reslot-Settles r W c from (IsReslot.defined name d is e) = define_named-Settles W name d (defines-client r name d from is) c e
reslot-Settles r W c from (IsReslot.made shape by e) = made-Settles W shape c e
reslot-Settles r W c from (IsReslot.removed name is e) = remove-Settles W name c e
reslot-Settles r W c from (IsReslot.switched name is e) = switch-Settles W name c e
reslot-Settles r W c from (IsReslot.retires is e) = λ o S. subst (λ x. Onto W x S → Settles W x S) (sym e) (retirement-Settles W o S)

pub reslot-Moves : (now : ℕ) (r : Request) (W : World) (c : SlotChange) (w : Written) → IsFromClient (Do r) → Sound W → IsReslot r W c
    → commit W.setting Server now c.commands W.store ≡ Ok w → Moves W (changed W w.store c)
reslot-Moves now r W c w from o by e = changed-Moves now W c w o (reslot-Settles r W c from by o) e

-- BATCHES

brought-Comes : (W : World) (x : Slot) (max : ℕ) → Sound W → Has W.slots x → Comes W W.store [] (after_batch W.store max x)
brought-Comes W x max o h =
    elim (batch x.version W.store max) as (λ b. batch x.version W.store max ≡ b → Comes W W.store [] (record { number = x.number; name = x.name; version = or_as_before x.version b; row = x.row })) [
      | None ↦ λ e. stays W W.store [] x o (Later-itself W.store) (omega arith) h
      | Some v ↦ λ e. let b = batch-Brought W.store x.version v max o.store (o.fits x h) e in record {
        fits = b.fits;
        within = o.numbers x h;
        old = inl (x, h, record { number = refl; definition = b.definition; onward = b.onward; named = refl });
        named = inl (x, h, refl, refl);
        kind = ap is_automatic (sym b.definition) ∙ o.kinds x h;
      }
    ] refl

-- what a batch keeps of a slot
pub record Keeps (x y : Slot) : Type 0 where
  pub number : y.number ≡ x.number
  pub name : y.name ≡ x.name
  pub row : y.row ≡ x.row
  pub definition : y.version.definition ≡ x.version.definition

-- a batch keeps the definition
brought-Keeps : (S : Store) (max : ℕ) (x : Slot) → Keeps x (after_batch S max x)
brought-Keeps S max x = record { number = refl; name = refl; row = refl; definition = by (batch_rows (reads x.version) x.version.etag S max) }
  where
    by : (rows : List Row) → (or_as_before x.version (advanced x.version rows (etag_of_batch (reads x.version) x.version.etag S max) S.cleaned)).definition ≡ x.version.definition
    by [] = refl
    by (r ∷ rows) = refl

pub kept-by-batch : (S : Store) (max : ℕ) (chosen : Slot → Bool) (x : Slot) → Keeps x (batch_if S max chosen x)
kept-by-batch S max chosen x = elim (chosen x) as (λ b. Keeps x (cond b (after_batch S max x) x)) [
  | true ↦ brought-Keeps S max x
  | false ↦ record { number = refl; name = refl; row = refl; definition = refl }
]

-- each slot is advanced by a batch or stays as it is
mapped-Moves : (W : World) (f : Slot → Slot) → Sound W → ((x : Slot) → Has W.slots x → Comes W W.store [] (f x)) → ((x : Slot) → Keeps x (f x))
    → Moves W (with_slots W (map f W.slots))
mapped-Moves W f o comes keeps = Shifts-Moves W W.store (map f W.slots) o (record {
  store = o.store;
  later = Later-itself W.store;
  comes = λ s h. let x = Has-map f W.slots s h in subst (Comes W W.store []) x.2 (comes x.0 x.1);
  rising = NumbersRise-map 0 f W.slots (λ x. (keeps x).number) o.rising;
  apart = NamesApart-map f W.slots (λ x. (keeps x).name) o.apart;
  beside = HaveTheirSlots-map f W.slots (λ x. (keeps x).name) o.beside;
  listed = map-AreListed W.store f W.slots (λ x h. ((keeps x).name, (keeps x).row, (keeps x).definition)) o.listed;
  rows = o.limits.rows;
  count = let a = length_mapped f W.slots in let b = o.limits.slots in omega arith;
  etags = o.limits.etags;
})

-- the chosen slots are advanced
advanced-Moves : (W : World) (max : ℕ) (chosen : Slot → Bool) → Sound W → Moves W (advanced_by W max chosen)
advanced-Moves W max chosen o = mapped-Moves W (batch_if W.store max chosen) o comes (kept-by-batch W.store max chosen)
  where
    comes : (x : Slot) → Has W.slots x → Comes W W.store [] (batch_if W.store max chosen x)
    comes x h = elim (chosen x) as (λ b. Comes W W.store [] (cond b (after_batch W.store max x) x)) [
      | true ↦ brought-Comes W x max o h
      | false ↦ stays W W.store [] x o (Later-itself W.store) (omega arith) h
    ]

-- CLEANING

-- the least of numbers is at most `most`
pub least-most : (most : ℕ) (es : List ℕ) → least most es ≤ most
least-most most [] = omega arith
least-most most (e ∷ es) = let a = least-most (min most e) es in omega arith

-- and at most the etag of each slot that has read something
pub least-reached : (most : ℕ) (slots : List Slot) (s : Slot) → Has slots s → 0 < s.version.etag → least most (etags_reached slots) ≤ s.version.etag
least-reached most [] s h some = absurd h
least-reached most (x ∷ slots) s (inl e) some =
    let at : x.version.etag ≡ s.version.etag = ap (λ (y : Slot). y.version.etag) e in
    elim (nat_lt 0 x.version.etag) as (λ b. nat_lt 0 x.version.etag ≡ b → least most (cond b (x.version.etag ∷ etags_reached slots) (etags_reached slots)) ≤ s.version.etag) [
      | true ↦ λ t. let a = least-most (min most x.version.etag) (etags_reached slots) in omega arith
      | false ↦ λ t. absurd (let a = ltb-false 0 x.version.etag t in omega arith)
    ] refl
least-reached most (x ∷ slots) s (inr h) some =
    elim (nat_lt 0 x.version.etag) as (λ b. least most (cond b (x.version.etag ∷ etags_reached slots) (etags_reached slots)) ≤ s.version.etag) [
      | true ↦ least-reached (min most x.version.etag) slots s h some
      | false ↦ least-reached most slots s h some
    ]

-- what is at most all of these is at most the least
pub least-greatest : (n most : ℕ) (slots : List Slot) → n ≤ most → ((s : Slot) → Has slots s → 0 < s.version.etag → n ≤ s.version.etag) → n ≤ least most (etags_reached slots)
least-greatest n most [] le all = le
least-greatest n most (x ∷ slots) le all =
    elim (nat_lt 0 x.version.etag) as (λ b. nat_lt 0 x.version.etag ≡ b → n ≤ least most (cond b (x.version.etag ∷ etags_reached slots) (etags_reached slots))) [
      | true ↦ λ t. least-greatest n (min most x.version.etag) slots (let a = all x (inl refl) (ltb-true 0 x.version.etag t) in omega arith) (λ s h. all s (inr h))
      | false ↦ λ t. least-greatest n most slots le (λ s h. all s (inr h))
    ] refl

pub clean-within : (W : World) → clean_upto W ≤ last W.store - 1
clean-within W = least-most (last W.store - 1) (etags_reached W.slots)

-- each index fits the store that is left: it has read nothing, or all that goes is up to its etag
cleaned-Comes : (W : World) (s : Slot) → Sound W → Has W.slots s → Comes W (cleaned_world W).store [] s
cleaned-Comes W s o h =
    let upto = clean_upto W in
    let sound = IsStore-clean upto W.store o.store (clean-within W) in
    let l = Later-clean upto W.store o.store (clean-within W) in record {
      fits = elim (nat_lt 0 s.version.etag) as (λ b. nat_lt 0 s.version.etag ≡ b → Fits (clean upto W.store) s.version) [
        | true ↦ λ t. Fits-later W.store (clean upto W.store) s.version (o.fits s h) l (up (least-reached (last W.store - 1) W.slots s h (ltb-true 0 s.version.etag t)))
        | false ↦ λ t. Fits-unread W.store (clean upto W.store) s.version (o.fits s h) (let a = ltb-false 0 s.version.etag t in omega arith) sound
      ] refl;
      within = let a = o.numbers s h in let b = l.grown in omega arith;
      old = inl (s, h, record { number = refl; definition = refl; onward = omega arith; named = refl });
      named = inl (s, h, refl, refl);
      kind = o.kinds s h;
    }
  where
    up : clean_upto W ≤ s.version.etag → ((clean (clean_upto W) W.store).cleaned ≤ W.store.cleaned) ⊎ ((clean (clean_upto W) W.store).cleaned ≤ s.version.etag)
    up le = clean-cases (clean_upto W) W.store (λ N. (N.cleaned ≤ W.store.cleaned) ⊎ (N.cleaned ≤ s.version.etag)) o.store (clean-within W) (λ any more below. inr le) (λ none. inl (omega arith))

-- the rows of definitions are no tombstones
cleaned-AreListed : (upto : ℕ) (S : Store) (slots : List Slot) → IsStore S → AreListed S slots → AreListed (clean upto S) slots
cleaned-AreListed upto S slots s a = record {
  each = λ x h. let l = a.each x h in record {
    row = l.row;
    found = (clean-iff upto S (folded (index_id x.name)) l.row s).1 (l.found, document_stays upto l.row (body-live x.version.definition l.row l.body));
    etag = l.etag;
    collection = l.collection;
    body = l.body;
  };
  only = λ q r h is. a.only q r ((clean-iff upto S q r s).0 h).0 is;
}

length-clean : (upto : ℕ) (S : Store) → length (clean upto S).rows ≤ length S.rows
length-clean upto S = let a = length_filtered (λ r. not (is_old_tombstone upto r)) S.rows in let e = ap length (clean-rows upto S) in omega arith

pub cleaned-Moves : (W : World) → Sound W → Moves W (cleaned_world W)
cleaned-Moves W o = Shifts-Moves W (clean (clean_upto W) W.store) W.slots o (record {
  store = IsStore-clean (clean_upto W) W.store o.store (clean-within W);
  later = Later-clean (clean_upto W) W.store o.store (clean-within W);
  comes = λ s h. cleaned-Comes W s o h;
  rising = o.rising;
  apart = o.apart;
  beside = o.beside;
  listed = cleaned-AreListed (clean_upto W) W.store W.slots o.store o.listed;
  rows = let a = length-clean (clean_upto W) W.store in let b = o.limits.rows in omega arith;
  count = o.limits.slots;
  etags = let e = last-clean (clean_upto W) W.store o.store (clean-within W) in let b = o.limits.etags in omega arith;
})

-- REQUESTS

-- a change of any kind
pub act-Moves : (now : ℕ) (r : Request) (W : World) (c : Change) → IsFromClient (Do r) → Sound W → IsAct now r W c → Moves W c.world
act-Moves now r W c from o (IsAct.writes w is e) = subst (λ (x : Change). Moves W x.world) (sym e) (written-Moves now W (commands_in r) w o is)
act-Moves now r W c from o (IsAct.reslots a) = subst (λ (x : Change). Moves W x.world) (sym a.is) (reslot-Moves now r W a.slots a.written from o a.by a.commits)
act-Moves now r W c from o (IsAct.advances max chosen e) = subst (λ (x : Change). Moves W x.world) (sym e) (advanced-Moves W max chosen o)
act-Moves now r W c from o (IsAct.cleans is e) = subst (λ (x : Change). Moves W x.world) (sym e) (cleaned-Moves W o)

-- so of several
acts-Move : (now : ℕ) (r : Request) (W : World) (changes : List Change) → IsFromClient (Do r) → Sound W → AllDo (IsAct now r) W changes → AllMove W changes
acts-Move now r W changes from = all-along (IsAct now r) (λ V c. Moves V c.world) Sound (λ V c i a. let m = act-Moves now r V c from i a in (m, m.sound)) W changes

pub course-Moves : (W : World) (now : ℕ) (r : Request) → IsFromClient (Do r) → Sound W → CourseMoves W (course_of W now r)
course-Moves W now r from o = let cs = (course_of W now r).changes in acts-Move now r W cs from o (all-acts now r W cs (course-acts W now r))

pub tidy-Moves : (now : ℕ) (names : List (List ℕ)) (W : World) (done : List (List ℕ)) → Sound W → CourseMoves W (tidy now names W done)
tidy-Moves now names W done o =
    let cs = (tidy now names W done).changes in
    acts-Move now Tidy W cs tt o (all-weaker (Reslots now Tidy) (IsAct now Tidy) (λ V c by. IsAct.reslots by) W cs (tidy-acts now names W done))
