-- What the reply to a TIDY tells.
use Rattle.std.proofs.Common.{arith, ◌≡◌, ℕ, List, [], ◌∷◌, ◌++◌, Bool, true, false, not, cond, map, filter, Some, None, Result, Ok, Err, refl, sym, ap, ◌∙◌, subst, inl, inr, append_assoc}
use Rattle.spec_data.specs.Folding.{folded}
use Rattle.spec_store.specs.Commit.{Refusal, Refused, Server, Written, commit}
use Rattle.spec_store.specs.Store.{Store}
use Rattle.spec_index.specs.Optimiser.{is_retired, retired, retirement}
use Rattle.spec_index.specs.World.{Note, Slot, SlotChange, SlotRefusal, World, serving, switch, switch_note, takes_over}
use Rattle.spec_server.specs.Requests.{Keeping, Tidy}
use Rattle.spec_server.specs.Courses.{Machine, Replied, changed, is_taken, made, same_machine, takes_after, with_world}
use Rattle.spec_server.specs.Writes.{refused_at, write_refused}
use Rattle.spec_server.specs.Indexing.{replaced_names, retire, rewrote, switch_and, tidied, tidy, try_switch}
use Rattle.spec_server.specs.Replies.{Reply}
use Rattle.spec_server.specs.Sound.{Has, LaterW, Sound}
use Rattle.raven_laws.specs.Served.{IsPartOf, IsRetirement, TidyIsAnswered, WasSwitched}
use Rattle.raven_laws.proofs.Acts.{IsReslot}
use Rattle.raven_laws.proofs.Moving.{reslot-Moves, tidy-Moves}
use Rattle.raven_laws.proofs.ServedLemmas.{made-later}
use Rattle.raven_laws.proofs.SlotLemmas.{Has-filter, Has-map, passes, served, serves}
use Rattle.raven_laws.proofs.SwitchLemmas.{switched-it}
use Rattle.raven_laws.proofs.WorldLemmas.{LaterW-itself, LaterW-then, append-none, found-Replaces, switch-Switches}

abbrev names_of : List Note → List (List ℕ)
names_of notes = map (λ (n : Note). n.name) notes

-- after some names were switched before, and while these are left
record Tells (W : World) (done names : List (List ℕ)) (V : World) (gone told : List (List ℕ)) : Type 0 where
  noted : List Note
  notes : V.notes ≡ W.notes ++ noted
  all : told ≡ done ++ names_of noted
  order : IsPartOf (map folded (names_of noted)) (map folded names)
  switches : (name : List ℕ) → Has (names_of noted) name → (s : Slot) × WasSwitched W V name s
  retirement : IsRetirement W V gone
  retires : (name : List ℕ) → Has gone name → serving V.slots name ≡ None

abbrev Answers : World → List (List ℕ) → List (List ℕ) → Replied → Type 0
Answers W done names replied = (gone told : List (List ℕ)) → replied.reply ≡ Reply.Tidied gone told → Tells W done names replied.machine.world gone told

-- OTHER REPLIES

not_tidied : (refused : Refused) (gone told : List (List ℕ)) → write_refused refused ≡ Reply.Tidied gone told → ⊥
not_tidied refused gone told = by refused.kind
  where
    by : (kind : Refusal) → refused_at refused.at kind ≡ Reply.Tidied gone told → ⊥
    by Refusal.ReservedId h = cc
    by (Refusal.TooLarge len) h = cc
    by (Refusal.CollectionChanged from) h = cc
    by (Refusal.Conflict expected found) h = cc
    by (Refusal.StoreFull rows) h = cc
    by (Refusal.EtagsSpent last) h = cc

refused-Answers : (M : Machine) (done names : List (List ℕ)) (refused : Refused) → Answers M.world done names (same_machine M (write_refused refused))
refused-Answers M done names refused = λ gone told e. absurd (not_tidied refused gone told e)

fault-Answers : (M : Machine) (k : Keeping) (done names : List (List ℕ)) → Answers M.world done names (same_machine M (Reply.KeeperFault k.before k.after))
fault-Answers M k done names = λ gone told e. absurd cc

same_gone : (a b c d : List (List ℕ)) → Reply.Tidied a b ≡ Reply.Tidied c d → a ≡ c
same_gone a b c d h = cc

same_told : (a b c d : List (List ℕ)) → Reply.Tidied a b ≡ Reply.Tidied c d → b ≡ d
same_told a b c d h = cc

-- THE RETIREMENT

-- no retired index is left under its name
retired-gone : (W : World) (name : List ℕ) → Sound W → Has (map (λ (x : Slot). x.name) (retired W.slots)) name → serving (retirement W).slots name ≡ None
retired-gone W name o at =
    let live = λ (x : Slot). not (is_retired W.slots x) in
    let x = Has-map (λ (y : Slot). y.name) (retired W.slots) name at in
    elim (serving (filter live W.slots) name) as (λ there. serving (filter live W.slots) name ≡ there → there ≡ None) [
      | None ↦ λ e. refl
      | Some t ↦ λ e.
          let f = served (filter live W.slots) name t e in
          let same : t ≡ x.0 = o.apart t x.0 (Has-filter live W.slots t f.0) (Has-filter (is_retired W.slots) W.slots x.0 x.1) (sym f.1 ∙ ap folded (sym x.2)) in
          let stays = passes live W.slots t f.0 in
          let goes = passes (is_retired W.slots) W.slots x.0 x.1 in
          absurd (let g : true ≡ false = sym stays ∙ ap live same ∙ ap not goes in cc)
    ] refl

no_more : (xs : List (List ℕ)) → xs ≡ xs ++ []
no_more [] = refl
no_more (x ∷ xs) = ap (λ ys. x ∷ ys) (no_more xs)

retire-Answers : (M : Machine) (k : Keeping) (takes : List Bool) (now : ℕ) (done : List (List ℕ)) → Sound M.world → let c = retire M.world now done in Answers M.world done [] (made k M takes c.changes c.reply)
retire-Answers M k takes now done o = by (commit M.world.setting Server now (retirement M.world).commands M.world.store)
  where
    by : (r : Result Written Refused) → let c = rewrote M.world (tidied M.world done) (retirement M.world) r in Answers M.world done [] (made k M takes c.changes c.reply)
    by (Err refused) = refused-Answers M done [] refused
    by (Ok w) = elim (is_taken takes w.rows) as (λ b. Answers M.world done [] (cond b (record { reply = tidied M.world done; machine = with_world M (changed M.world w.store (retirement M.world)) })
        (same_machine M (Reply.KeeperFault k.before k.after)))) [
          | true ↦ λ gone told e. record {
            noted = [];
            notes = append-none M.world.notes;
            all = sym (same_told (map (λ (x : Slot). x.name) (retired M.world.slots)) done gone told e) ∙ no_more done;
            order = refl;
            switches = λ name at. absurd at;
            retirement = record {
              before = M.world;
              earlier = LaterW-itself M.world;
              notes = refl;
              all = sym (same_gone (map (λ (x : Slot). x.name) (retired M.world.slots)) done gone told e);
              left = refl;
            };
            retires = λ name at. retired-gone M.world name o (subst (λ l. Has l name) (sym (same_gone (map (λ (x : Slot). x.name) (retired M.world.slots)) done gone told e)) at);
          }
          | false ↦ fault-Answers M k done []
        ]

-- A SWITCH

-- what is known of a switch that is made: its note, and that it was one
record Noted (W : World) (name : List ℕ) (c : SlotChange) (S : Store) : Type 0 where
  note : Note
  notes : c.notes ≡ W.notes ++ note ∷ []
  called : note.name ≡ c.name
  same : folded note.name ≡ folded name
  was : (Z : World) → LaterW (changed W S c) Z → (s : Slot) × WasSwitched W Z note.name s

switch-Noted : (M : Machine) (now : ℕ) (name : List ℕ) (c : SlotChange) (S : Store) → Sound M.world → switch M.world name ≡ Ok c → Noted M.world name c S
switch-Noted M now name c S o e =
    let w = switch-Switches M.world name c e in
    let at = served M.world.slots name w.old w.serves in
    let p = found-Replaces M.world w.old w.new o at.0 w.built in
    let own = serves M.world.slots w.old o.apart at.0 in
    subst (λ (x : SlotChange). Noted M.world name x S) w.change (record {
      note = switch_note M.world w.old w.new;
      notes = refl;
      called = refl;
      same = sym at.1;
      was = λ Z later. (
        w.old,
        record {
          before = M.world;
          after = changed M.world S (takes_over M.world w.old w.new);
          earlier = LaterW-itself M.world;
          old = w.old;
          served = own;
          continues = record { number = refl; definition = refl; onward = omega arith; named = refl };
          switch = switched-it M w.old w.new now o p w.old.name S own w.built w.fresh;
          later = later;
        },
      );
    })

-- what was switched later was switched on the way
Was-before : (W V Z : World) (name : List ℕ) (s : Slot) → LaterW W V → WasSwitched V Z name s → WasSwitched W Z name s
Was-before W V Z name s first was = record {
  before = was.before;
  after = was.after;
  earlier = LaterW-then W V was.before first was.earlier;
  old = was.old;
  served = was.served;
  continues = was.continues;
  switch = was.switch;
  later = was.later;
}

-- a retirement from a world that came later
retirement-before : (W V Z : World) (gone : List (List ℕ)) → LaterW W V → IsRetirement V Z gone → IsRetirement W Z gone
retirement-before W V Z gone first r = record { before = r.before; earlier = LaterW-then W V r.before first r.earlier; notes = r.notes; all = r.all; left = r.left }

-- a switch before what comes later
before-Tells : (W : World) (name : List ℕ) (names done : List (List ℕ)) (c : SlotChange) (S : Store) (Z : World) (gone told : List (List ℕ)) → Noted W name c S → LaterW W (changed W S c) → LaterW (changed W S c) Z
    → Tells (changed W S c) (done ++ c.name ∷ []) names Z gone told → Tells W done (name ∷ names) Z gone told
before-Tells W name names done c S Z gone told n first later t = record {
  noted = n.note ∷ t.noted;
  notes = t.notes ∙ ap (λ ns. ns ++ t.noted) n.notes ∙ append_assoc W.notes (n.note ∷ []) t.noted;
  all = t.all ∙ append_assoc done (c.name ∷ []) (names_of t.noted) ∙ ap (λ q. done ++ q ∷ names_of t.noted) (sym n.called);
  order = inr (map folded (names_of t.noted), ap (λ q. q ∷ map folded (names_of t.noted)) n.same, t.order);
  switches = λ q at. elim at [
    | inl same ↦ subst (λ (x : List ℕ). (s : Slot) × WasSwitched W Z x s) same (n.was Z later)
    | inr more ↦ let was = t.switches q more in (was.0, Was-before W (changed W S c) Z q was.0 first was.1)
  ];
  retirement = retirement-before W (changed W S c) Z gone first t.retirement;
  retires = t.retires;
}

-- a name that may not be switched is passed over
passed-Answers : (W : World) (done names : List (List ℕ)) (name : List ℕ) (replied : Replied) → Answers W done names replied → Answers W done (name ∷ names) replied
passed-Answers W done names name replied a = λ gone told e. let t = a gone told e in record {
  noted = t.noted;
  notes = t.notes;
  all = t.all;
  order = inl t.order;
  switches = t.switches;
  retirement = t.retirement;
  retires = t.retires;
}

-- THE COURSE

-- what comes after a switch, in each state
abbrev Rest : Keeping → ℕ → List (List ℕ) → Type 0
Rest k now names = (N : Machine) (left : List Bool) (all : List (List ℕ)) → Sound N.world → let c = tidy now names N.world all in Answers N.world all names (made k N left c.changes c.reply)

go-Answers : (k : Keeping) (now : ℕ) (name : List ℕ) (names : List (List ℕ)) (M : Machine) (takes : List Bool) (done : List (List ℕ)) → Sound M.world → Rest k now names
    → (c : SlotChange) → switch M.world name ≡ Ok c → (r : Result Written Refused) → commit M.world.setting Server now c.commands M.world.store ≡ r
    → let x = switch_and M.world c (λ V. tidy now names V (done ++ c.name ∷ [])) r in Answers M.world done (name ∷ names) (made k M takes x.changes x.reply)
go-Answers k now name names M takes done o rest c e (Err refused) f = refused-Answers M done (name ∷ names) refused
go-Answers k now name names M takes done o rest c e (Ok w) f =
    let V = changed M.world w.store c in
    let N = with_world M V in
    let all = done ++ c.name ∷ [] in
    let left = takes_after w.rows takes in
    let m = reslot-Moves now Tidy M.world c w tt o (IsReslot.switched name (inr refl) e) f in
    let x = tidy now names V all in
    let end = made k N left x.changes x.reply in
    let later = made-later k N left x (tidy-Moves now names V all m.sound) in
    let after = rest N left all m.sound in
    elim (is_taken takes w.rows) as (λ b. Answers M.world done (name ∷ names) (cond b end (same_machine M (Reply.KeeperFault k.before k.after)))) [
      | true ↦ λ gone told is. before-Tells M.world name names done c w.store end.machine.world gone told (switch-Noted M now name c w.store o e) m.later later (after gone told is)
      | false ↦ fault-Answers M k done (name ∷ names)
    ]

try-Answers : (k : Keeping) (now : ℕ) (name : List ℕ) (names : List (List ℕ)) (M : Machine) (takes : List Bool) (done : List (List ℕ)) → Sound M.world → Rest k now names
    → (r : Result SlotChange SlotRefusal) → switch M.world name ≡ r
    → let x = try_switch M.world now done (λ V all. tidy now names V all) r in Answers M.world done (name ∷ names) (made k M takes x.changes x.reply)
try-Answers k now name names M takes done o rest (Err refusal) e =
    let c = tidy now names M.world done in passed-Answers M.world done names name (made k M takes c.changes c.reply) (rest M takes done o)
try-Answers k now name names M takes done o rest (Ok c) e = go-Answers k now name names M takes done o rest c e (commit M.world.setting Server now c.commands M.world.store) refl

tidy-Answers : (k : Keeping) (now : ℕ) (names : List (List ℕ)) → Rest k now names
tidy-Answers k now [] M takes done o = retire-Answers M k takes now done o
tidy-Answers k now (name ∷ names) M takes done o = try-Answers k now name names M takes done o (λ N left all p. tidy-Answers k now names N left all p) (switch M.world name) refl

pub tidy-answered : (M : Machine) (k : Keeping) (now : ℕ) → Sound M.world → TidyIsAnswered M k now
tidy-answered M k now o = λ gone told e.
    let t = tidy-Answers k now (replaced_names M.world) M k.takes [] o gone told e in
    record {
      noted = t.noted;
      notes = t.notes;
      all = t.all;
      order = subst (λ (l : List (List ℕ)). IsPartOf (map folded l) (map folded (replaced_names M.world))) (sym t.all) t.order;
      switches = λ name at. t.switches name (subst (λ (l : List (List ℕ)). Has l name) t.all at);
      retirement = t.retirement;
      retires = t.retires;
    }
