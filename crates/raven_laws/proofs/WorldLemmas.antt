-- Later worlds, and the changes of a world in which indexes are added, replaced, removed or retired, or a name is switched.
use Rattle.std.proofs.Common.{◌≡◌, ℕ, ◌+◌, ◌<◌, ◌≤◌, List, [], ◌∷◌, ◌++◌, Bool, true, false, not, ◌&&◌, ◌||◌, ◌==◌, cond, codes, filter, map, nat_eq, nat_le, length, is_some, Option, Some, None, Result, Ok, Err, refl, sym, ap, ◌∙◌, subst, arith, ◌⊎◌, inl, inr, append_assoc, length-append}
use Rattle.std.proofs.lemmas.Bool.{eq-eqb, eqb-true, leb-false}
use Rattle.std.specs.List.{list_any, starts_with}
use Rattle.spec_data.specs.Faults.{replacement_of}
use Rattle.spec_data.specs.Folding.{folded}
use Rattle.spec_store.specs.Store.{Store, last, IsStore}
use Rattle.spec_store.specs.Later.{Later}
use Rattle.index_tree.specs.Definitions.{Definition, Static, Auto, AutoReduce, same_definition}
use Rattle.spec_store.specs.Commit.{Command, Put, Delete, AnyVector, after_commands, row_of, with_option}
use Rattle.spec_index.specs.Optimiser.{Shape, is_retired, is_wider, retired, retirement, shape_of, slot_shape}
use Rattle.spec_index.specs.World.{Slot, Note, World, new_version, reads, serving, SlotChange, SlotRefusal, NameServes, NotesFull, NotFresh, TooManyIndexes, added, added_if_room, added_to, begins_with_auto, begins_with_replacement, define, define_at, define_beside, define_named, dropped, index_id, is_automatic, is_reserved_name, is_stale, name_refusal, named_anew, newest_read, remove, removed, renamed, row_body, switch, switch_note, switched, switched_to, taken_out, takes_over, unchanged, unless_refused, without}
use Rattle.spec_server.specs.Sound.{Has, Fits, NumbersRise, NamesApart, IsBeside, HaveTheirSlots, AreListed, Sound, IsOldOrNew, HasItsName, LaterW}
use Rattle.spec_store.proofs.LaterLemmas.{Later-itself, Later-then}
use Rattle.raven_laws.proofs.ListedLemmas.{put-AreListed, delete-AreListed}
use Rattle.raven_laws.proofs.KindLemmas.{client-name}
use Rattle.raven_laws.proofs.LimitLemmas.{fewer_filtered, length_filtered, length_mapped}
use Rattle.spec_store.proofs.StoreLemmas.{either_false}
use Rattle.raven_laws.proofs.SlotLemmas.{Has-append, Has-left, Has-right, Has-filter, Has-map, Has-mapped, Has-without, passes, into-filter, above, same_slot, NumbersRise-lower, NumbersRise-map, NumbersRise-push, NumbersRise-filter, NamesApart-push, NamesApart-filter, NamesApart-sub, unserved, served, left, left_or, replaced_apart, longer, replacing, replacing-no-auto, taking, newest_fresh, Fits-later, Fits-fresh}

-- LATER WORLDS

pub append-none : (ns : List Note) → ns ≡ ns ++ []
append-none [] = refl
append-none (n ∷ ns) = ap (λ ms. n ∷ ms) (append-none ns)

pub LaterW-itself : (W : World) → LaterW W W
LaterW-itself W = record {
  store = Later-itself W.store;
  setting = refl;
  noted = [];
  notes = append-none W.notes;
  numbers = λ s h. inl (s, h, record { number = refl; definition = refl; onward = omega arith; named = refl });
  names = λ s h. inl (s, h, refl, refl);
}

pub LaterW-then : (W N P : World) → LaterW W N → LaterW N P → LaterW W P
LaterW-then W N P f g = record {
  store = Later-then W.store N.store P.store f.store g.store;
  setting = g.setting ∙ f.setting;
  noted = f.noted ++ g.noted;
  notes = g.notes ∙ ap (λ ns. ns ++ g.noted) f.notes ∙ append_assoc W.notes f.noted g.noted;
  numbers = λ s h. elim (g.numbers s h) [
    | inl n ↦ let c = n.2 in elim (f.numbers n.0 n.1) [
      | inl w ↦
          let b = w.2 in
          inl (w.0, w.1, record { number = b.number ∙ c.number; definition = b.definition ∙ c.definition; onward = let x = b.onward in let y = c.onward in omega arith; named = b.named ∙ c.named })
      | inr new ↦ inr (let e = c.number in omega arith)
    ]
    | inr new ↦ inr (let le = f.store.grown in omega arith)
  ];
  names = λ s h. elim (g.names s h) [
    | inl n ↦ elim (f.names n.0 n.1) [
      | inl w ↦ inl (w.0, w.1, w.2 ∙ n.2, w.3 ∙ n.3)
      | inr (inl new) ↦ inr (inl (let e = n.2 in omega arith))
      | inr (inr m) ↦ inr (inr (m.0, Has-left f.noted g.noted m.0 m.1, m.2 ∙ n.3, m.3 ∙ n.2))
    ]
    | inr (inl new) ↦ inr (inl (let le = f.store.grown in omega arith))
    | inr (inr m) ↦ inr (inr (m.0, Has-right f.noted g.noted m.0 m.1, m.2, m.3))
  ];
}

-- what has to be proved of a slot of a later world
pub record Comes (W : World) (S : Store) (noted : List Note) (s : Slot) : Type 0 where
  pub fits : Fits S s.version
  pub within : s.number ≤ last S
  pub old : IsOldOrNew W s
  pub named : HasItsName W noted s
  pub kind : is_automatic s.version.definition ≡ begins_with_auto s.name

pub stays : (W : World) (S : Store) (noted : List Note) (s : Slot) → Sound W → Later W.store S → S.cleaned ≤ W.store.cleaned → Has W.slots s → Comes W S noted s
stays W S noted s o l same h = record {
  fits = Fits-later W.store S s.version (o.fits s h) l (inl same);
  within = let a = o.numbers s h in let b = l.grown in omega arith;
  old = inl (s, h, record { number = refl; definition = refl; onward = omega arith; named = refl });
  named = inl (s, h, refl, refl);
  kind = o.kinds s h;
}

-- CHANGES OF THE SLOTS

abbrev pub StartsWithPut : List Command → Type 0
StartsWithPut [] = ⊥
StartsWithPut (Put id expected body ∷ cs) = Unit {0}
StartsWithPut (Delete id expected ∷ cs) = ⊥

-- a store in which the rows of a change were written
pub record Onto (W : World) (c : SlotChange) (S : Store) : Type 0 where
  pub store : IsStore S
  pub later : Later W.store S
  pub same : S.cleaned ≤ W.store.cleaned
  pub grown : StartsWithPut c.commands → last W.store < last S
  pub now : ℕ
  pub written : S ≡ after_commands now c.commands W.store

-- what has to be proved of a change of the slots
pub record Settles (W : World) (c : SlotChange) (S : Store) : Type 0 where
  pub noted : List Note
  pub notes : c.notes ≡ W.notes ++ noted
  pub fair : (n : Note) → Has noted n → (n.newest ≤ n.index_etag) × (n.etag ≤ last S)
  pub paper : length c.notes ≤ W.setting.max_notes
  pub slots : (s : Slot) → Has c.slots s → Comes W S noted s
  pub rising : NumbersRise 0 c.slots
  pub apart : NamesApart c.slots
  pub beside : HaveTheirSlots c.slots
  pub listed : AreListed S c.slots
  pub count : length c.slots ≤ W.setting.max_slots

-- what has to be proved if no name is switched
pub record Alters (W : World) (c : SlotChange) (S : Store) : Type 0 where
  pub slots : (s : Slot) → Has c.slots s → Comes W S [] s
  pub rising : NumbersRise 0 c.slots
  pub apart : NamesApart c.slots
  pub beside : HaveTheirSlots c.slots
  pub listed : AreListed S c.slots
  pub count : length c.slots ≤ W.setting.max_slots

Alters-Settles : (W : World) (c : SlotChange) (S : Store) → c.notes ≡ W.notes → Sound W → Alters W c S → Settles W c S
Alters-Settles W c S same o a = record {
  noted = [];
  notes = same ∙ append-none W.notes;
  fair = λ n h. absurd h;
  paper = let e = ap (λ (ns : List Note). length ns) same in let b = o.limits.notes in omega arith;
  slots = a.slots;
  rising = a.rising;
  apart = a.apart;
  beside = a.beside;
  listed = a.listed;
  count = a.count;
}

pub one_number : (W : World) (x r : Slot) → Sound W → Has W.slots x → Has W.slots r → x.number ≡ r.number → x ≡ r
one_number W x r o h g e = same_slot 0 W.slots x r o.rising h g e

-- ADDING ONE

-- the definition is automatic exactly if the name begins so, and the name is that of no replacement
pub record SuitsName (name : List ℕ) (d : Definition) : Type 0 where
  pub kind : is_automatic d ≡ begins_with_auto name
  pub plain : begins_with_replacement name ≡ false

abbrev pub new_slot : World → List ℕ → Definition → Slot
new_slot W name d = record { number = last W.store + 1; name = name; version = new_version d; row = last W.store + 1 }

-- slots that were there, and a new one at the end
added_to-Alters : (W : World) (S : Store) (slots : List Slot) (name : List ℕ) (d : Definition) → is_automatic d ≡ begins_with_auto name → Sound W
    → ((s : Slot) → Has slots s → Has W.slots s) → NumbersRise 0 slots
    → ((s : Slot) → Has slots s → folded s.name ≡ folded name → ⊥) → ((s : Slot) → Has W.slots s → Has slots s ⊎ (folded s.name ≡ folded name))
    → HaveTheirSlots (slots ++ new_slot W name d ∷ []) → length slots < W.setting.max_slots
    → Onto W (added_to W slots name d) S → Alters W (added_to W slots name d) S
added_to-Alters W S slots name d kind o sub up free whole beside room t = record {
  slots = λ s h. elim (Has-append slots (new ∷ []) s h) [
    | inl old ↦ stays W S [] s o t.later t.same (sub s old)
    | inr (inl e) ↦ subst (Comes W S []) e (record {
      fits = Fits-fresh S d t.store;
      within = let a = t.grown tt in omega arith;
      old = inr (omega arith);
      named = inr (inl (omega arith));
      kind = kind;
    })
    | inr (inr no_more) ↦ absurd no_more
  ];
  rising = NumbersRise-push 0 slots new up (omega arith) (λ s h. let a = o.numbers s (sub s h) in omega arith);
  apart = NamesApart-push slots new (NamesApart-sub slots W.slots sub o.apart) free;
  beside = beside;
  listed = subst (λ T. AreListed T (slots ++ new ∷ [])) (sym t.written) (put-AreListed W.store W.slots (slots ++ new ∷ []) t.now name d new o.listed
      (Has-right slots (new ∷ []) new (inl refl)) refl refl refl
      (λ x h. elim (Has-append slots (new ∷ []) x h) [ inl a ↦ inr (sub x a, free x a) | inr (inl e) ↦ inl e | inr (inr no_more) ↦ absurd no_more ])
      (λ x h. elim (whole x h) [ inl a ↦ inl (Has-left slots (new ∷ []) x a) | inr e ↦ inr e ]));
  count = let a = length-append slots (new ∷ []) in omega arith;
}
  where
    new : Slot
    new = record { number = last W.store + 1; name = name; version = new_version d; row = last W.store + 1 }

-- a replacement that was beside its slot still is, if that stays
beside-still : (slots more : List Slot) (x : Slot) → HaveTheirSlots slots → Has slots x → begins_with_replacement x.name ≡ true
    → ((t : Slot) → Has slots t → folded x.name ≡ folded (replacement_of t.name) → is_reserved_name t.name ≡ false → Has more t) → IsBeside more x
beside-still slots more x all h is keeps =
    let b = all x h is in record { slot = b.slot; there = keeps b.slot b.there b.named b.given; named = b.named; given = b.given }

added-Alters : (W : World) (S : Store) (name : List ℕ) (d : Definition) → SuitsName name d → Sound W → ((s : Slot) → Has W.slots s → folded s.name ≡ folded name → ⊥)
    → length W.slots < W.setting.max_slots → Onto W (added W name d) S → Alters W (added W name d) S
added-Alters W S name d suits o free room t =
    added_to-Alters W S W.slots name d suits.kind o (λ s h. h) o.rising free (λ s h. inl h)
    (λ x h is. elim (Has-append W.slots (new_slot W name d ∷ []) x h) [
      | inl old ↦ beside-still W.slots (W.slots ++ new_slot W name d ∷ []) x o.beside old is (λ y there named given. Has-left W.slots (new_slot W name d ∷ []) y there)
      | inr (inl e) ↦ absurd (let f = suits.plain in let g = ap (λ (y : Slot). begins_with_replacement y.name) e in cc)
      | inr (inr no_more) ↦ absurd no_more
    ]) room t

pub added-Settles : (W : World) (S : Store) (name : List ℕ) (d : Definition) → SuitsName name d → Sound W → ((s : Slot) → Has W.slots s → folded s.name ≡ folded name → ⊥)
    → length W.slots < W.setting.max_slots → Onto W (added W name d) S → Settles W (added W name d) S
added-Settles W S name d suits o free room t = Alters-Settles W (added W name d) S refl o (added-Alters W S name d suits o free room t)

pub same_change : (a c : SlotChange) → (let r : Result SlotChange SlotRefusal = Ok a in r) ≡ Ok c → a ≡ c
same_change a c h = cc

pub past_test : (b : Bool) (refusal : SlotRefusal) (rest : Result SlotChange SlotRefusal) (c : SlotChange) → cond b (Err refusal) rest ≡ Ok c → (b ≡ false) × (rest ≡ Ok c)
past_test true refusal rest c h = absurd cc
past_test false refusal rest c h = (refl, h)

not_some : (o : Option Slot) → is_some o ≡ false → o ≡ None
not_some None h = refl
not_some (Some s) h = absurd cc

-- if no slot serves the name yet
pub added_if_room-Settles : (W : World) (name : List ℕ) (d : Definition) (c : SlotChange) → SuitsName name d → added_if_room W name d ≡ Ok c → serving W.slots name ≡ None → Sound W
    → (S : Store) → Onto W c S → Settles W c S
added_if_room-Settles W name d c suits h free o S =
    let room = past_test (nat_le W.setting.max_slots (length W.slots)) TooManyIndexes (Ok (added W name d)) c h in
    subst (λ x. Onto W x S → Settles W x S) (same_change (added W name d) c room.1)
    (added-Settles W S name d suits o (unserved W.slots name free) (leb-false W.setting.max_slots (length W.slots) room.0))

pub define-Settles : (W : World) (name : List ℕ) (d : Definition) → SuitsName name d → (c : SlotChange) → define W name d ≡ Ok c → Sound W → (S : Store) → Onto W c S → Settles W c S
define-Settles W name d suits c h o S =
    let room = past_test (nat_le W.setting.max_slots (length W.slots)) TooManyIndexes (cond (is_some (serving W.slots name)) (Err NameServes) (Ok (added W name d))) c h in
    let free = past_test (is_some (serving W.slots name)) NameServes (Ok (added W name d)) c room.1 in
    subst (λ x. Onto W x S → Settles W x S) (same_change (added W name d) c free.1)
    (added-Settles W S name d suits o (unserved W.slots name (not_some (serving W.slots name) free.0)) (leb-false W.setting.max_slots (length W.slots) room.0))

-- nothing is changed
unchanged-Settles : (W : World) (name : List ℕ) → Sound W → (S : Store) → Onto W (unchanged W name) S → Settles W (unchanged W name) S
unchanged-Settles W name o S t = Alters-Settles W (unchanged W name) S refl o (record {
  slots = λ s h. stays W S [] s o t.later t.same h;
  rising = o.rising;
  apart = o.apart;
  beside = o.beside;
  listed = subst (λ T. AreListed T W.slots) (sym t.written) o.listed;
  count = o.limits.slots;
})

-- REPLACEMENTS

-- r is the replacement of s, whose name a client gave
pub record Replaces (W : World) (s r : Slot) : Type 0 where
  pub old : Has W.slots s
  pub new : Has W.slots r
  pub named : folded r.name ≡ folded (replacement_of s.name)
  pub given : is_reserved_name s.name ≡ false

pub found-Replaces : (W : World) (s r : Slot) → Sound W → Has W.slots s → serving W.slots (replacement_of s.name) ≡ Some r → Replaces W s r
found-Replaces W s r o h is =
    let at = served W.slots (replacement_of s.name) r is in
    let b = o.beside r at.0 (replacing r.name s.name (sym at.1)) in
    let same : b.slot ≡ s = o.apart b.slot s b.there h (replaced_apart b.slot.name s.name (sym b.named ∙ sym at.1)) in
    record { old = h; new = at.0; named = sym at.1; given = subst (λ (x : Slot). is_reserved_name x.name ≡ false) same b.given }

-- a name that a client gave is no replacement's
pub no_replacement : (name : List ℕ) → is_reserved_name name ≡ false → begins_with_replacement name ≡ false
no_replacement name h = (either_false (begins_with_auto name) (begins_with_replacement name) h).1

pub not-replacement : (t r : Slot) → is_reserved_name t.name ≡ false → begins_with_replacement r.name ≡ true → t ≡ r → ⊥
not-replacement t r given is e = let f = no_replacement t.name given in let g = ap (λ (x : Slot). begins_with_replacement x.name) e in cc

-- only one slot is the replacement of s
pub one_replacement : (W : World) (s r x t : Slot) → Sound W → Replaces W s r → Has W.slots x → Has W.slots t → folded x.name ≡ folded (replacement_of t.name) → t.number ≡ s.number → x ≡ r
one_replacement W s r x t o p h g named e =
    let same : t ≡ s = one_number W t s o g p.old e in
    o.apart x r h p.new (named ∙ ap (λ (y : Slot). folded (replacement_of y.name)) same ∙ sym p.named)

-- WITHOUT A REPLACEMENT

without-listed : (W : World) (S : Store) (slots : List Slot) (now : ℕ) (r : Slot) → Sound W → ((x : Slot) → Has slots x → Has W.slots x) → Has slots r → AreListed S slots
    → AreListed (with_option S (row_of now S (Delete (index_id r.name) AnyVector))) (without r.number slots)
without-listed W S slots now r o sub there l = delete-AreListed S slots (without r.number slots) now r l there
    (λ x h. let k = Has-without r.number slots x h in (k, λ e. left r.number slots x h (ap (λ (y : Slot). y.number) (o.apart x r (sub x k) (sub r there) e))))
    (λ x h. elim (left_or r.number slots x h) [ inl a ↦ inl a | inr e ↦ inr (ap (λ (y : Slot). folded y.name) (one_number W x r o (sub x h) (sub r there) e)) ])

-- a slot whose name a client gave is left without a replacement
given-left : (W : World) (slots : List Slot) (t r : Slot) → Sound W → Has slots t → Has W.slots t → Has W.slots r → is_reserved_name t.name ≡ false → begins_with_replacement r.name ≡ true → Has (without r.number slots) t
given-left W slots t r o h at there given is = elim (left_or r.number slots t h) [
  | inl a ↦ a
  | inr e ↦ absurd (not-replacement t r given is (one_number W t r o at there e))
]

without-beside : (W : World) (r : Slot) → Sound W → Has W.slots r → begins_with_replacement r.name ≡ true → HaveTheirSlots (without r.number W.slots)
without-beside W r o there is x h begins =
    beside-still W.slots (without r.number W.slots) x o.beside (Has-without r.number W.slots x h) begins (λ t at named given. given-left W W.slots t r o at at there given is)

dropped-Settles : (W : World) (r : Slot) (name : List ℕ) → Sound W → Has W.slots r → begins_with_replacement r.name ≡ true → (S : Store) → Onto W (dropped W r name) S → Settles W (dropped W r name) S
dropped-Settles W r name o there is S t = Alters-Settles W (dropped W r name) S refl o (record {
  slots = λ s h. stays W S [] s o t.later t.same (Has-without r.number W.slots s h);
  rising = NumbersRise-filter 0 (λ x. not (x.number == r.number)) W.slots o.rising;
  apart = NamesApart-sub (without r.number W.slots) W.slots (Has-without r.number W.slots) o.apart;
  beside = without-beside W r o there is;
  listed = subst (λ T. AreListed T (without r.number W.slots)) (sym t.written) (without-listed W W.store W.slots t.now r o (λ x h. h) there o.listed);
  count = let a = length_filtered (λ x. not (x.number == r.number)) W.slots in let b = o.limits.slots in omega arith;
})

-- DEFINITIONS

-- a new replacement of s, if there is none
first_replacement-Settles : (W : World) (s : Slot) (d : Definition) (c : SlotChange) → is_automatic d ≡ false → Has W.slots s → is_reserved_name s.name ≡ false
    → serving W.slots (replacement_of s.name) ≡ None → added_if_room W (replacement_of s.name) d ≡ Ok c → Sound W → (S : Store) → Onto W c S → Settles W c S
first_replacement-Settles W s d c is h given none e o S =
    let name = replacement_of s.name in
    let new = new_slot W name d in
    let room = past_test (nat_le W.setting.max_slots (length W.slots)) TooManyIndexes (Ok (added W name d)) c e in
    subst (λ x. Onto W x S → Settles W x S) (same_change (added W name d) c room.1) (λ t. Alters-Settles W (added W name d) S refl o
    (added_to-Alters W S W.slots name d (is ∙ sym (replacing-no-auto name s.name refl)) o (λ x k. k) o.rising (unserved W.slots name none) (λ x k. inl k)
    (λ x k begins. elim (Has-append W.slots (new ∷ []) x k) [
      | inl old ↦ beside-still W.slots (W.slots ++ new ∷ []) x o.beside old begins (λ y there named given. Has-left W.slots (new ∷ []) y there)
      | inr (inl same) ↦ record { slot = s; there = Has-left W.slots (new ∷ []) s h; named = ap (λ (y : Slot). folded y.name) (sym same); given = given }
      | inr (inr no_more) ↦ absurd no_more
    ]) (leb-false W.setting.max_slots (length W.slots) room.0) t))

-- a new replacement of s, in place of r
next_replacement-Settles : (W : World) (s r : Slot) (d : Definition) → is_automatic d ≡ false → Replaces W s r → Sound W
    → (S : Store) → Onto W (added_to W (without r.number W.slots) (replacement_of s.name) d) S → Settles W (added_to W (without r.number W.slots) (replacement_of s.name) d) S
next_replacement-Settles W s r d is p o S t =
    let name = replacement_of s.name in
    let new = new_slot W name d in
    let less = without r.number W.slots in
    let begins : begins_with_replacement r.name ≡ true = replacing r.name s.name p.named in
    Alters-Settles W (added_to W less name d) S refl o
    (added_to-Alters W S less name d (is ∙ sym (replacing-no-auto name s.name refl)) o (Has-without r.number W.slots) (NumbersRise-filter 0 (λ x. not (x.number == r.number)) W.slots o.rising)
    (λ x h e. left r.number W.slots x h (ap (λ (y : Slot). y.number) (o.apart x r (Has-without r.number W.slots x h) p.new (e ∙ sym p.named))))
    (λ x h. elim (left_or r.number W.slots x h) [ inl a ↦ inl a | inr e ↦ inr (ap (λ (y : Slot). folded y.name) (one_number W x r o h p.new e) ∙ p.named) ])
    (λ x h also. elim (Has-append less (new ∷ []) x h) [
      | inl old ↦ beside-still less (less ++ new ∷ []) x (without-beside W r o p.new begins) old also (λ y there named given. Has-left less (new ∷ []) y there)
      | inr (inl same) ↦ record {
        slot = s;
        there = Has-left less (new ∷ []) s (given-left W W.slots s r o p.old p.old p.new p.given begins);
        named = ap (λ (y : Slot). folded y.name) (sym same);
        given = p.given;
      }
      | inr (inr no_more) ↦ absurd no_more
    ]) (let a = fewer_filtered (λ x. not (x.number == r.number)) W.slots r p.new (ap not (eq-eqb r.number r.number refl)) in let b = o.limits.slots in omega arith) t)

define_beside-Settles : (W : World) (d : Definition) (s : Slot) (other : Option Slot) (c : SlotChange) → is_automatic d ≡ false → Has W.slots s → is_reserved_name s.name ≡ false
    → serving W.slots (replacement_of s.name) ≡ other → define_beside W d s other ≡ Ok c → Sound W → (S : Store) → Onto W c S → Settles W c S
define_beside-Settles W d s None c is h given none e o S =
    elim (same_definition d s.version.definition) as (λ b. cond b (Ok (unchanged W s.name)) (added_if_room W (replacement_of s.name) d) ≡ Ok c → Onto W c S → Settles W c S) [
      | true ↦ λ g. subst (λ x. Onto W x S → Settles W x S) (same_change (unchanged W s.name) c g) (unchanged-Settles W s.name o S)
      | false ↦ λ g. first_replacement-Settles W s d c is h given none g o S
    ] e
define_beside-Settles W d s (Some r) c is h given there e o S =
    let p = found-Replaces W s r o h there in
    elim (same_definition d s.version.definition) as (λ b.
    cond {A = Result SlotChange SlotRefusal} b (Ok (dropped W r s.name)) (cond (same_definition d r.version.definition) (Ok (unchanged W r.name)) (Ok (added_to W (without r.number W.slots) (replacement_of s.name) d))) ≡ Ok c
    → Onto W c S → Settles W c S) [
      | true ↦ λ g. subst (λ x. Onto W x S → Settles W x S) (same_change (dropped W r s.name) c g) (dropped-Settles W r s.name o p.new (replacing r.name s.name p.named) S)
      | false ↦ λ g. elim (same_definition d r.version.definition) as (λ b.
          cond {A = Result SlotChange SlotRefusal} b (Ok (unchanged W r.name)) (Ok (added_to W (without r.number W.slots) (replacement_of s.name) d)) ≡ Ok c → Onto W c S → Settles W c S) [
            | true ↦ λ k. subst (λ x. Onto W x S → Settles W x S) (same_change (unchanged W r.name) c k) (unchanged-Settles W r.name o S)
            | false ↦ λ k. subst (λ x. Onto W x S → Settles W x S) (same_change (added_to W (without r.number W.slots) (replacement_of s.name) d) c k) (next_replacement-Settles W s r d is p o S)
          ] g
    ] e

-- a client may give a name exactly without regard to case
pub reserved-other : (a b : List ℕ) → folded a ≡ folded b → is_reserved_name a ≡ false → is_reserved_name b ≡ false
reserved-other a b same h = ap (λ q. starts_with nat_eq q (codes "auto/") || starts_with nat_eq q (codes "replacementof/")) (sym same) ∙ h

define_at-Settles : (W : World) (name : List ℕ) (d : Definition) (there : Option Slot) (c : SlotChange) → is_automatic d ≡ false → is_reserved_name name ≡ false → serving W.slots name ≡ there
    → define_at W name d there ≡ Ok c → Sound W → (S : Store) → Onto W c S → Settles W c S
define_at-Settles W name d None c is free e h o S =
    let f = either_false (begins_with_auto name) (begins_with_replacement name) free in
    added_if_room-Settles W name d c (record { kind = is ∙ sym f.0; plain = f.1 }) h e o S
define_at-Settles W name d (Some s) c is free e h o S =
    let at = served W.slots name s e in
    define_beside-Settles W d s (serving W.slots (replacement_of s.name)) c is at.0 (reserved-other name s.name at.1 free) refl h o S

pub define_named-Settles : (W : World) (name : List ℕ) (d : Definition) → is_automatic d ≡ false → (c : SlotChange) → define_named W name d ≡ Ok c → Sound W → (S : Store) → Onto W c S → Settles W c S
define_named-Settles W name d is c h =
    elim (name_refusal name) as (λ r. name_refusal name ≡ r → unless_refused r (define_at W name d (serving W.slots name)) ≡ Ok c → Sound W → (S : Store) → Onto W c S → Settles W c S) [
      | None ↦ λ e g. define_at-Settles W name d (serving W.slots name) c is (client-name name e) refl g
      | Some refusal ↦ λ e g. absurd cc
    ] refl h

-- REMOVALS

-- a slot goes that has no replacement
alone-Settles : (W : World) (s : Slot) → Sound W → Has W.slots s → serving W.slots (replacement_of s.name) ≡ None → (S : Store) → Onto W (taken_out W s None) S → Settles W (taken_out W s None) S
alone-Settles W s o at none S t = Alters-Settles W (taken_out W s None) S refl o (record {
  slots = λ x h. stays W S [] x o t.later t.same (Has-without s.number W.slots x h);
  rising = NumbersRise-filter 0 (λ x. not (x.number == s.number)) W.slots o.rising;
  apart = NamesApart-sub (without s.number W.slots) W.slots (Has-without s.number W.slots) o.apart;
  beside = λ x h is.
      let k = Has-without s.number W.slots x h in
      beside-still W.slots (without s.number W.slots) x o.beside k is (λ y there named given. elim (left_or s.number W.slots y there) [
        | inl a ↦ a
        | inr e ↦ absurd (unserved W.slots (replacement_of s.name) none x k (named ∙ ap (λ (z : Slot). folded (replacement_of z.name)) (one_number W y s o there at e)))
      ]);
  listed = subst (λ T. AreListed T (without s.number W.slots)) (sym t.written) (without-listed W W.store W.slots t.now s o (λ x h. h) at o.listed);
  count = let a = length_filtered (λ x. not (x.number == s.number)) W.slots in let b = o.limits.slots in omega arith;
})

-- a slot goes together with its replacement
both-Settles : (W : World) (s r : Slot) → Sound W → Replaces W s r → (S : Store) → Onto W (taken_out W s (Some r)) S → Settles W (taken_out W s (Some r)) S
both-Settles W s r o p S t = Alters-Settles W (taken_out W s (Some r)) S refl o (record {
  slots = λ x h. stays W S [] x o t.later t.same (kept x h);
  rising = NumbersRise-filter 0 (λ y. not (y.number == r.number)) less (NumbersRise-filter 0 (λ y. not (y.number == s.number)) W.slots o.rising);
  apart = NamesApart-sub (without r.number less) W.slots kept o.apart;
  beside = λ x h is. beside-still W.slots (without r.number less) x o.beside (kept x h) is (λ y there named given. elim (left_or s.number W.slots y there) [
    | inl a ↦ given-left W less y r o a there p.new given begins
    | inr e ↦ absurd (left r.number less x h (ap (λ (z : Slot). z.number) (one_replacement W s r x y o p (kept x h) there named e)))
  ]);
  listed = subst (λ T. AreListed T (without r.number less)) (sym t.written)
      (without-listed W (with_option W.store (row_of t.now W.store (Delete (index_id s.name) AnyVector))) less t.now r o (Has-without s.number W.slots) r_left
      (without-listed W W.store W.slots t.now s o (λ x h. h) p.old o.listed));
  count =
      let a = length_filtered (λ y. not (y.number == s.number)) W.slots in
      let b = length_filtered (λ y. not (y.number == r.number)) less in
      let c = o.limits.slots in omega arith;
})
  where
    less : List Slot
    less = without s.number W.slots

    begins : begins_with_replacement r.name ≡ true
    begins = replacing r.name s.name p.named

    kept : (x : Slot) → Has (without r.number less) x → Has W.slots x
    kept x h = Has-without s.number W.slots x (Has-without r.number less x h)

    r_left : Has less r
    r_left = elim (left_or s.number W.slots r p.new) [
      | inl a ↦ a
      | inr e ↦ absurd (not-replacement s r p.given begins (sym (one_number W r s o p.new p.old e)))
    ]

taken_out-Settles : (W : World) (s : Slot) (other : Option Slot) → Sound W → Has W.slots s → serving W.slots (replacement_of s.name) ≡ other
    → (S : Store) → Onto W (taken_out W s other) S → Settles W (taken_out W s other) S
taken_out-Settles W s None o at none = alone-Settles W s o at none
taken_out-Settles W s (Some r) o at there = both-Settles W s r o (found-Replaces W s r o at there)

pub remove-Settles : (W : World) (name : List ℕ) (c : SlotChange) → remove W name ≡ Ok c → Sound W → (S : Store) → Onto W c S → Settles W c S
remove-Settles W name c h o S = by (serving W.slots name) refl h
  where
    by : (there : Option Slot) → serving W.slots name ≡ there → removed W there ≡ Ok c → Onto W c S → Settles W c S
    by None e g = absurd cc
    by (Some s) e g =
        let other = serving W.slots (replacement_of s.name) in
        subst (λ x. Onto W x S → Settles W x S) (same_change (taken_out W s other) c g) (taken_out-Settles W s other o (served W.slots name s e).0 refl S)

-- SWITCHES

renamed_number : (n : ℕ) (name : List ℕ) (row : ℕ) (s : Slot) → (renamed n name row s).number ≡ s.number
renamed_number n name row s = elim (s.number == n) as (λ b. (cond b (named_anew name row s) s).number ≡ s.number) [ true ↦ refl | false ↦ refl ]

module _ (W : World) (s r : Slot) (o : Sound W) (p : Replaces W s r) where
  abbrev less : List Slot
  less = without s.number W.slots

  abbrev row : ℕ
  row = last W.store + 1

  abbrev taker : Slot
  taker = named_anew s.name row r

  abbrev take : Slot → Slot
  take = renamed r.number s.name row

  kept : (x : Slot) → Has less x → Has W.slots x
  kept = Has-without s.number W.slots

  begins : begins_with_replacement r.name ≡ true
  begins = replacing r.name s.name p.named

  -- r takes the name, and each other slot stays
  pub taken : (x : Slot) → Has W.slots x → ((x ≡ r) × (take x ≡ taker)) ⊎ ((x.number ≡ r.number → ⊥) × (take x ≡ x))
  taken x h = elim (x.number == r.number) as (λ b. (x.number == r.number) ≡ b
      → ((x ≡ r) × (cond b (named_anew s.name row x) x ≡ taker)) ⊎ ((x.number ≡ r.number → ⊥) × (cond b (named_anew s.name row x) x ≡ x))) [
        | true ↦ λ e. let same = one_number W x r o h p.new (eqb-true x.number r.number e) in inl (same, ap (named_anew s.name row) same)
        | false ↦ λ e. inr (λ g. let f = eq-eqb x.number r.number g in cc, refl)
      ] refl

  -- the name that is taken over is no other slot's
  clash : (x : Slot) → Has less x → folded s.name ≡ folded x.name → ⊥
  clash x h e = left s.number W.slots x h (ap (λ (z : Slot). z.number) (o.apart x s (kept x h) p.old (sym e)))

  names_differ : folded s.name ≡ folded r.name → ⊥
  names_differ e = longer s.name (sym p.named ∙ sym e)

  pub r_left : Has less r
  r_left = elim (left_or s.number W.slots r p.new) [
    | inl a ↦ a
    | inr e ↦ absurd (not-replacement s r p.given begins (sym (one_number W r s o p.new p.old e)))
  ]

  one : (x y : Slot) → Has less x → Has less y → folded (take x).name ≡ folded (take y).name → x ≡ y
  one x y h g e = elim (taken x (kept x h)) [
    | inl a ↦ elim (taken y (kept y g)) [
      | inl b ↦ a.0 ∙ sym b.0
      | inr b ↦ absurd (clash y g (ap (λ (z : Slot). folded z.name) (sym a.1) ∙ e ∙ ap (λ (z : Slot). folded z.name) b.1))
    ]
    | inr a ↦ elim (taken y (kept y g)) [
      | inl b ↦ absurd (clash x h (ap (λ (z : Slot). folded z.name) (sym b.1) ∙ sym e ∙ ap (λ (z : Slot). folded z.name) a.1))
      | inr b ↦ o.apart x y (kept x h) (kept y g) (ap (λ (z : Slot). folded z.name) (sym a.1) ∙ e ∙ ap (λ (z : Slot). folded z.name) b.1)
    ]
  ]

  pub take-apart : NamesApart (map take less)
  take-apart a b h g e =
      let x = Has-map take less a h in
      let y = Has-map take less b g in
      sym x.2 ∙ ap take (one x.0 y.0 x.1 y.1 (ap (λ (z : Slot). folded z.name) x.2 ∙ e ∙ ap (λ (z : Slot). folded z.name) (sym y.2))) ∙ y.2

  -- a slot whose name a client gave is still there, except s
  given-taken : (t : Slot) → Has W.slots t → is_reserved_name t.name ≡ false → (t.number ≡ s.number → ⊥) → Has (map take less) t
  given-taken t h given other = elim (left_or s.number W.slots t h) [
    | inr e ↦ absurd (other e)
    | inl a ↦ elim (taken t h) [
      | inl b ↦ absurd (not-replacement t r given begins b.0)
      | inr b ↦ subst (Has (map take less)) b.1 (Has-mapped take less t a)
    ]
  ]

  take-beside : HaveTheirSlots (map take less)
  take-beside y h is =
      let x = Has-map take less y h in
      elim (taken x.0 (kept x.0 x.1)) [
        | inl a ↦ absurd (let f = no_replacement s.name p.given in let g = ap (λ (z : Slot). begins_with_replacement z.name) (sym a.1 ∙ x.2) in cc)
        | inr a ↦
            let same : x.0 ≡ y = sym a.1 ∙ x.2 in
            let there = subst (Has W.slots) same (kept x.0 x.1) in
            beside-still W.slots (map take less) y o.beside there is (λ t at named given.
            given-taken t at given (λ e. a.0 (ap (λ (z : Slot). z.number) (same ∙ one_replacement W s r y t o p there at named e))))
      ]

  put_first : (now : ℕ) → AreListed (with_option W.store (row_of now W.store (Put (index_id s.name) AnyVector (row_body r.version.definition)))) (taker ∷ less)
  put_first now = put-AreListed W.store W.slots (taker ∷ less) now s.name r.version.definition taker o.listed (inl refl) refl refl refl
      (λ x h. elim h [ inl e ↦ inl e | inr k ↦ inr (kept x k, λ e. clash x k (sym e)) ])
      (λ x h. elim (left_or s.number W.slots x h) [ inl a ↦ inl (inr a) | inr e ↦ inr (ap (λ (z : Slot). folded z.name) (one_number W x s o h p.old e)) ])

  back : (y : Slot) → Has (map take less) y → Has (taker ∷ less) y × (folded y.name ≡ folded r.name → ⊥)
  back y h =
      let x = Has-map take less y h in
      subst (λ (z : Slot). Has (taker ∷ less) z × (folded z.name ≡ folded r.name → ⊥)) x.2
      (elim (taken x.0 (kept x.0 x.1)) [
        | inl a ↦ (inl (sym a.1), λ e. names_differ (ap (λ (z : Slot). folded z.name) (sym a.1) ∙ e))
        | inr a ↦ (
          subst (Has (taker ∷ less)) (sym a.1) (inr x.1),
          λ e. a.0 (ap (λ (z : Slot). z.number) (o.apart x.0 r (kept x.0 x.1) p.new (ap (λ (z : Slot). folded z.name) (sym a.1) ∙ e))),
        )
      ])

  forth : (x : Slot) → Has (taker ∷ less) x → Has (map take less) x ⊎ (folded x.name ≡ folded r.name)
  forth x (inl e) = elim (taken r p.new) [
    | inl a ↦ inl (subst (Has (map take less)) (a.1 ∙ e) (Has-mapped take less r r_left))
    | inr a ↦ absurd (a.0 refl)
  ]
  forth x (inr h) = elim (taken x (kept x h)) [
    | inl a ↦ inr (ap (λ (z : Slot). folded z.name) a.0)
    | inr a ↦ inl (subst (Has (map take less)) a.1 (Has-mapped take less x h))
  ]

  abbrev note : Note
  note = switch_note W s r

  moved : (S : Store) → Later W.store S → S.cleaned ≤ W.store.cleaned → (x : Slot) → Has W.slots x → Comes W S (note ∷ []) (take x)
  moved S later same x h = elim (taken x h) [
    | inl a ↦ subst (Comes W S (note ∷ [])) (sym a.1) (record {
      fits = Fits-later W.store S r.version (o.fits r p.new) later (inl same);
      within = let c = o.numbers r p.new in let d = later.grown in omega arith;
      old = inl (r, p.new, record { number = refl; definition = refl; onward = omega arith; named = taking r.name s.name p.named (no_replacement s.name p.given) });
      named = inr (inr (note, inl refl, refl, refl));
      kind = o.kinds r p.new ∙ replacing-no-auto r.name s.name p.named ∙ sym (either_false (begins_with_auto s.name) (begins_with_replacement s.name) p.given).0;
    })
    | inr a ↦ subst (Comes W S (note ∷ [])) (sym a.1) (stays W S (note ∷ []) x o later same h)
  ]

  pub takes_over-Settles : length W.notes < W.setting.max_notes → is_stale W.store r ≡ false → (S : Store) → Onto W (takes_over W s r) S → Settles W (takes_over W s r) S
  takes_over-Settles paper is_fresh S t = record {
    noted = note ∷ [];
    notes = refl;
    fair = λ n h. elim h [
      | inl e ↦ subst (λ (x : Note). (x.newest ≤ x.index_etag) × (x.etag ≤ last S)) e (newest_fresh W.store (reads r.version) r.version.etag is_fresh, let a = t.grown tt in omega arith)
      | inr no_more ↦ absurd no_more
    ];
    paper = let a = length-append W.notes (note ∷ []) in omega arith;
    slots = λ y h. let x = Has-map take less y h in subst (Comes W S (note ∷ [])) x.2 (moved S t.later t.same x.0 (kept x.0 x.1));
    rising = NumbersRise-map 0 take less (renamed_number r.number s.name row) (NumbersRise-filter 0 (λ z. not (z.number == s.number)) W.slots o.rising);
    apart = take-apart;
    beside = take-beside;
    listed = subst (λ T. AreListed T (map take less)) (sym t.written)
        (delete-AreListed (with_option W.store (row_of t.now W.store (Put (index_id s.name) AnyVector (row_body r.version.definition)))) (taker ∷ less) (map take less) t.now r (put_first t.now) (inr r_left) back forth);
    count = let a = length_mapped take less in let b = length_filtered (λ z. not (z.number == s.number)) W.slots in let c = o.limits.slots in omega arith;
  }

-- what is known of a switch that is not refused
pub record Switches (W : World) (name : List ℕ) (c : SlotChange) : Type 0 where
  pub old : Slot
  pub new : Slot
  pub serves : serving W.slots name ≡ Some old
  pub built : serving W.slots (replacement_of old.name) ≡ Some new
  pub paper : length W.notes < W.setting.max_notes
  pub fresh : is_stale W.store new ≡ false
  pub change : takes_over W old new ≡ c

pub switch-Switches : (W : World) (name : List ℕ) (c : SlotChange) → switch W name ≡ Ok c → Switches W name c
switch-Switches W name c h = by (serving W.slots name) refl h
  where
    by_new : (s : Slot) (other : Option Slot) → serving W.slots name ≡ Some s → serving W.slots (replacement_of s.name) ≡ other → switched_to W s other ≡ Ok c → Switches W name c
    by_new s None e f g = absurd cc
    by_new s (Some r) e f g =
        let paper = past_test (nat_le W.setting.max_notes (length W.notes)) NotesFull (cond (is_stale W.store r) (Err (NotFresh r.version.etag (newest_read W.store r))) (Ok (takes_over W s r))) c g in
        let fresh = past_test (is_stale W.store r) (NotFresh r.version.etag (newest_read W.store r)) (Ok (takes_over W s r)) c paper.1 in
        record {
          old = s;
          new = r;
          serves = e;
          built = f;
          paper = leb-false W.setting.max_notes (length W.notes) paper.0;
          fresh = fresh.0;
          change = same_change (takes_over W s r) c fresh.1;
        }

    by : (there : Option Slot) → serving W.slots name ≡ there → switched W there ≡ Ok c → Switches W name c
    by None e g = absurd cc
    by (Some s) e g = by_new s (serving W.slots (replacement_of s.name)) e refl g

pub switch-Settles : (W : World) (name : List ℕ) (c : SlotChange) → switch W name ≡ Ok c → Sound W → (S : Store) → Onto W c S → Settles W c S
switch-Settles W name c h o S =
    let w = switch-Switches W name c h in
    subst (λ x. Onto W x S → Settles W x S) w.change
    (takes_over-Settles W w.old w.new o (found-Replaces W w.old w.new o (served W.slots name w.old w.serves).0 w.built) w.paper w.fresh S)

-- RETIREMENT

-- the same slots in another list
same-listed : (S : Store) (slots more : List Slot) → ((x : Slot) → Has more x → Has slots x) → ((x : Slot) → Has slots x → Has more x) → AreListed S slots → AreListed S more
same-listed S slots more back forth l = record { each = λ x h. l.each x (back x h); only = λ q r h is c. let x = l.only q r h is c in (x.0, forth x.0 x.1, x.2) }

-- the slots without those of a list
abbrev without_all : List Slot → List Slot → List Slot
without_all [] slots = slots
without_all (r ∷ rs) slots = without_all rs (without r.number slots)

Has-without_all : (rs slots : List Slot) (x : Slot) → Has (without_all rs slots) x → Has slots x × ((r : Slot) → Has rs r → x.number ≡ r.number → ⊥)
Has-without_all [] slots x h = (h, λ r g e. absurd g)
Has-without_all (r ∷ rs) slots x h =
    let k = Has-without_all rs (without r.number slots) x h in
    (Has-without r.number slots x k.0, λ y g e. elim g [ inl same ↦ left r.number slots x k.0 (e ∙ ap (λ (z : Slot). z.number) (sym same)) | inr more ↦ k.1 y more e ])

into-without_all : (rs slots : List Slot) (x : Slot) → Has slots x → ((r : Slot) → Has rs r → x.number ≡ r.number → ⊥) → Has (without_all rs slots) x
into-without_all [] slots x h other = h
into-without_all (r ∷ rs) slots x h other = into-without_all rs (without r.number slots) x (elim (left_or r.number slots x h) [
  | inl a ↦ a
  | inr e ↦ absurd (other r (inl refl) e)
]) (λ y g e. other y (inr g) e)

-- the rows of all these slots are deleted
without_all-listed : (W : World) (now : ℕ) (rs slots : List Slot) (S : Store) → Sound W → ((x : Slot) → Has slots x → Has W.slots x) → NumbersRise 0 rs → ((r : Slot) → Has rs r → Has slots r) → AreListed S slots
    → AreListed (after_commands now (map (λ r. Delete (index_id r.name) AnyVector) rs) S) (without_all rs slots)
without_all-listed W now [] slots S o sub up all l = l
without_all-listed W now (r ∷ rs) slots S o sub up all l =
    without_all-listed W now rs (without r.number slots) (with_option S (row_of now S (Delete (index_id r.name) AnyVector))) o
    (λ x h. sub x (Has-without r.number slots x h)) (NumbersRise-lower 0 r.number rs (omega arith) up.1)
    (λ x h. elim (left_or r.number slots x (all x (inr h))) [ inl a ↦ a | inr e ↦ absurd (let f = above r.number rs x up.1 h in omega arith) ])
    (without-listed W S slots now r o sub (all r (inl refl)) l)

-- an index that a client defined is not retired
pub client-unretired : (slots : List Slot) (s : Slot) → is_automatic s.version.definition ≡ false → is_retired slots s ≡ false
client-unretired slots s h = by (slot_shape s) (no_shape s.version.definition h) slots
  where
    no_shape : (d : Definition) → is_automatic d ≡ false → shape_of d ≡ None
    no_shape (Static map reduce map_text reduce_text) g = refl
    no_shape (Auto collection fields) g = absurd cc
    no_shape (AutoReduce collection groups sums) g = absurd cc

    by : (shape : Option Shape) → shape ≡ None → (more : List Slot) → list_any (λ b. is_wider (slot_shape b) shape && nat_le s.version.etag b.version.etag) more ≡ false
    by None e [] = refl
    by None e (b ∷ more) = by None e more
    by (Some a) e more = absurd cc

pub retirement-Settles : (W : World) → Sound W → (S : Store) → Onto W (retirement W) S → Settles W (retirement W) S
retirement-Settles W o S t = Alters-Settles W (retirement W) S refl o (record {
  slots = λ x h. stays W S [] x o t.later t.same (Has-filter stay W.slots x h);
  rising = NumbersRise-filter 0 stay W.slots o.rising;
  apart = NamesApart-filter stay W.slots o.apart;
  beside = λ x h is. beside-still W.slots (filter stay W.slots) x o.beside (Has-filter stay W.slots x h) is (λ y there named given.
      into-filter stay W.slots y there (ap not (client-unretired W.slots y (o.kinds y there ∙ (either_false (begins_with_auto y.name) (begins_with_replacement y.name) given).0))));
  listed = subst (λ T. AreListed T (filter stay W.slots)) (sym t.written)
      (same-listed (after_commands t.now (map (λ r. Delete (index_id r.name) AnyVector) (retired W.slots)) W.store) (without_all (retired W.slots) W.slots) (filter stay W.slots)
      (λ x h. into-without_all (retired W.slots) W.slots x (Has-filter stay W.slots x h) (λ r g e.
      let same = one_number W x r o (Has-filter stay W.slots x h) (Has-filter (is_retired W.slots) W.slots r g) e in
      let is = passes (is_retired W.slots) W.slots r g in
      let is_not = passes stay W.slots x h in
      let f = ap (λ (y : Slot). is_retired W.slots y) same in cc))
      (λ x h.
      let k = Has-without_all (retired W.slots) W.slots x h in
      elim (is_retired W.slots x) as (λ b. is_retired W.slots x ≡ b → Has (filter stay W.slots) x) [
        | true ↦ λ e. absurd (k.1 x (into-filter (is_retired W.slots) W.slots x k.0 e) refl)
        | false ↦ λ e. into-filter stay W.slots x k.0 (ap not e)
      ] refl)
      (without_all-listed W t.now (retired W.slots) W.slots W.store o (λ x h. h) (NumbersRise-filter 0 (is_retired W.slots) W.slots o.rising) (λ r h. Has-filter (is_retired W.slots) W.slots r h) o.listed));
  count = let a = length_filtered stay W.slots in let b = o.limits.slots in omega arith;
})
  where
    stay : Slot → Bool
    stay x = not (is_retired W.slots x)
