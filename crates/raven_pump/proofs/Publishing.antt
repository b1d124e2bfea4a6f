-- What comes of a batch that is published.
use Rattle.std.proofs.Common.{◌≡◌, ◌≤◌, ℕ, [], ◌∷◌, true, false, cond, Option, Some, None, Result, Ok, Err, length, map, refl, sym, ap, ◌∙◌, subst, arith, nat_lt}
use Rattle.std.proofs.lemmas.Bool.{ltb-true}
use Rattle.spec_store.proofs.StoreLemmas.{both_true}
use Rattle.spec_index.specs.World.{Slot, Version, World, numbered, with_version}
use Rattle.spec_server.specs.Courses.{Course, Replied, made, one_change, only_reply, storing, with_slots}
use Rattle.spec_server.specs.Workers.{PublishRefusal, published, published_in, put_in, was_cleaned}
use Rattle.spec_server.specs.Workers as is
use Rattle.spec_server.specs.Replies as replies
use Rattle.spec_server.specs.Replies.{Reply}
use Rattle.spec_desk.specs.Lived.{Lived, etags, lived, machine_in}
use Rattle.spec_desk.specs.Publishing.{publication, publishes}
use Rattle.spec_desk.specs.Stepped.{IsMadeInPart, Settled, Settles, Stays}
use Rattle.spec_desk.proofs.Parts.{alone}
use Rattle.raven_pump.specs.Turning.{IsOvertaken, Publishes, told_by}
use Rattle.raven_pump.specs.declared.turned.Turned.{Turned}
use Rattle.raven_pump.specs.declared.turned.Turned.TheVariants.{Cleaned, Gone, Moved, Passed}

-- THE COURSE OF A PUBLICATION

-- it is one of four
data Comes (W : World) (n : ℕ) (v : Version) (c : Course) : Type 0 where
  moves : (s : Slot) (V : World) → numbered W.slots n ≡ Some s → published W n v ≡ Ok V → V.store ≡ W.store → c ≡ one_change (replies.Published s.version.etag s.name v.etag) [] V → Comes W n v c
  gone : published W n v ≡ Err (is.Gone n) → c ≡ only_reply (replies.Gone n) → Comes W n v c
  passed : (now : ℕ) → published W n v ≡ Err (is.Passed now) → c ≡ only_reply (replies.Passed now) → Comes W n v c
  cleaned : (upto : ℕ) → IsOvertaken W n v upto → published W n v ≡ Err (is.Cleaned upto) → c ≡ only_reply (replies.Cleaned upto) → Comes W n v c

comes : (W : World) (n : ℕ) (v : Version) → Comes W n v (publication W n v)
comes W n v = by (numbered W.slots n) refl
  where
    at : (there : Option Slot) (r : Result World PublishRefusal) → numbered W.slots n ≡ there → published_in W n v there ≡ r → published W n v ≡ r
    at there r e p = ap (published_in W n v) e ∙ p

    course : (there : Option Slot) (r : Result World PublishRefusal) → numbered W.slots n ≡ there → published_in W n v there ≡ r → publication W n v ≡ publishes (is.published_reply v there) r
    course there r e p = ap (λ (t : Option Slot). publishes (is.published_reply v t) (published_in W n v t)) e ∙ ap (publishes (is.published_reply v there)) p

    -- it is past its index
    put : (s : Slot) → numbered W.slots n ≡ Some s → nat_lt s.version.etag v.etag ≡ true → published_in W n v (Some s) ≡ put_in W n v → Comes W n v (publication W n v)
    put s e ahead goes =
        let V = with_slots W (map (with_version n v) W.slots) in
        let upto = W.store.cleaned in
        elim (was_cleaned W.store v) as (λ b. was_cleaned W.store v ≡ b → Comes W n v (publication W n v)) [
          | true ↦ λ t.
              let both = both_true (nat_lt v.cleaned upto) (nat_lt v.etag upto) t in
              let here : published_in W n v (Some s) ≡ Err (is.Cleaned upto) = goes ∙ ap (λ b. cond b (let r : Result World PublishRefusal = Err (is.Cleaned upto) in r) (Ok V)) t in
              cleaned upto (record {
                slot = s;
                live = e;
                ahead = ltb-true s.version.etag v.etag ahead;
                cleaned = refl;
                since = ltb-true v.cleaned upto both.0;
                past = ltb-true v.etag upto both.1;
              }) (at (Some s) (Err (is.Cleaned upto)) e here) (course (Some s) (Err (is.Cleaned upto)) e here)
          | false ↦ λ t.
              let here : published_in W n v (Some s) ≡ Ok V = goes ∙ ap (λ b. cond b (let r : Result World PublishRefusal = Err (is.Cleaned upto) in r) (Ok V)) t in
              moves s V e (at (Some s) (Ok V) e here) refl (course (Some s) (Ok V) e here)
        ] refl

    by : (there : Option Slot) → numbered W.slots n ≡ there → Comes W n v (publication W n v)
    by None e = gone (at None (Err (is.Gone n)) e refl) (course None (Err (is.Gone n)) e refl)
    by (Some s) e = elim (nat_lt s.version.etag v.etag) as (λ b. nat_lt s.version.etag v.etag ≡ b → Comes W n v (publication W n v)) [
      | true ↦ λ t. put s e t (ap (λ b. cond b (put_in W n v) (Err (is.Passed s.version.etag))) t)
      | false ↦ λ t.
          let here : published_in W n v (Some s) ≡ Err (is.Passed s.version.etag) = ap (λ b. cond b (put_in W n v) (Err (is.Passed s.version.etag))) t in
          passed s.version.etag (at (Some s) (Err (is.Passed s.version.etag)) e here) (course (Some s) (Err (is.Passed s.version.etag)) e here)
    ] refl

-- its reply says what came of it
pub is_told : (W : World) (n : ℕ) (v : Version) (c : Course) (reply : Reply) → c ≡ publication W n v → reply ≡ c.reply → told_by reply ≡ None → ⊥
is_told W n v c reply same shown none = by (comes W n v)
  where
    whole : reply ≡ (publication W n v).reply
    whole = shown ∙ ap (λ (d : Course). d.reply) same

    by : Comes W n v (publication W n v) → ⊥
    by (moves s V e p store d) = let t = sym (ap (λ (k : Course). told_by k.reply) d) ∙ sym (ap told_by whole) ∙ none in cc
    by (gone p d) = let t = sym (ap (λ (k : Course). told_by k.reply) d) ∙ sym (ap told_by whole) ∙ none in cc
    by (passed now p d) = let t = sym (ap (λ (k : Course). told_by k.reply) d) ∙ sym (ap told_by whole) ∙ none in cc
    by (cleaned upto o p d) = let t = sym (ap (λ (k : Course). told_by k.reply) d) ∙ sym (ap told_by whole) ∙ none in cc

-- A COURSE THAT WAS SETTLED

same_turned : (a b : Turned) → Some a ≡ Some b → a ≡ b
same_turned a b e = cc

-- nothing else changed, whatever the keeper did
record Left (x y : Lived) (W : World) : Type 0 where
  pub world : y.world ≡ W
  pub rest : y ≡ lived W x.keeper x.fronts

lived_as : (x y : Lived) (W : World) → y.world ≡ W → y.keeper ≡ x.keeper → y.fronts ≡ x.fronts → Left x y W
lived_as x y W w k f = record { world = w; rest = λ i. lived (w i) (k i) (f i) }

-- a change without rows
left_one : (x y : Lived) (reply : Reply) (V : World) (s : Settled) → Settles (storing [] V ∷ []) x s y → Left x y V
left_one x y reply V s settles =
    let m = settles reply in
    lived_as x y V (ap (λ (r : Replied). r.machine.world) (m.made_is [] ∙ ap (λ ts. made (record { takes = []; before = x.keeper.count; after = y.keeper.count }) (machine_in x) ts (storing [] V ∷ []) reply) m.asked.0))
    m.asked.1 m.fronts

-- no change
left_same : (x y : Lived) (reply : Reply) (s : Settled) → Settles [] x s y → Left x y x.world
left_same x y reply s settles = let m = settles reply in lived_as x y x.world (ap (λ (r : Replied). r.machine.world) (m.made_is [])) m.asked.1 m.fronts

pub does : (n : ℕ) (v : Version) (x y : Lived) (c : Course) (s : Settled) (t : Turned) → c ≡ publication x.world n v → Settles c.changes x s y → told_by c.reply ≡ Some t
    → Publishes n v x t y × (etags y ≡ etags x)
does n v x y c s t same settles told = by (comes x.world n v)
  where
    says : (d : Course) → publication x.world n v ≡ d → told_by d.reply ≡ Some t
    says d e = sym (ap (λ (k : Course). told_by k.reply) (same ∙ e)) ∙ told

    settled : (d : Course) → publication x.world n v ≡ d → Settles d.changes x s y
    settled d e = subst (λ (k : Course). Settles k.changes x s y) (same ∙ e) settles

    so : (u : Turned) → Some u ≡ Some t → Publishes n v x u y × (etags y ≡ etags x) → Publishes n v x t y × (etags y ≡ etags x)
    so u e d = subst (λ (k : Turned). Publishes n v x k y × (etags y ≡ etags x)) (same_turned u t e) d

    by : Comes x.world n v (publication x.world n v) → Publishes n v x t y × (etags y ≡ etags x)
    by (moves slot V e p store d) =
        let l = left_one x y c.reply V s (settled (one_change (replies.Published slot.version.etag slot.name v.etag) [] V) d) in
        so (Moved slot.version.etag v.etag) (says (one_change (replies.Published slot.version.etag slot.name v.etag) [] V) d) (
          (slot, e, refl, refl, p ∙ ap (λ (W : World). (let r : Result World PublishRefusal = Ok W in r)) (sym l.world), l.rest ∙ ap (λ (W : World). lived W x.keeper x.fronts) (sym l.world)),
          ap (λ (z : Lived). etags z) l.rest ∙ ap (λ S. etags (lived (record { setting = V.setting; store = S; slots = V.slots; notes = V.notes }) x.keeper x.fronts)) store,
        )
    by (gone p d) =
        let l = left_same x y c.reply s (settled (only_reply (replies.Gone n)) d) in
        so Gone (says (only_reply (replies.Gone n)) d) ((p, l.rest), ap (λ (z : Lived). etags z) l.rest)
    by (passed now p d) =
        let l = left_same x y c.reply s (settled (only_reply (replies.Passed now)) d) in
        so (Passed now) (says (only_reply (replies.Passed now)) d) ((p, l.rest), ap (λ (z : Lived). etags z) l.rest)
    by (cleaned upto o p d) =
        let l = left_same x y c.reply s (settled (only_reply (replies.Cleaned upto)) d) in
        so (Cleaned upto) (says (only_reply (replies.Cleaned upto)) d) ((o, p, l.rest), ap (λ (z : Lived). etags z) l.rest)

-- it is one change at most
few : (W : World) (n : ℕ) (v : Version) → length (publication W n v).changes ≤ 1
few W n v = by (comes W n v)
  where
    at : (c : Course) → publication W n v ≡ c → length c.changes ≤ 1 → length (publication W n v).changes ≤ 1
    at c e k = subst (λ (d : Course). length d.changes ≤ 1) (sym e) k

    by : Comes W n v (publication W n v) → length (publication W n v).changes ≤ 1
    by (moves s V e p store d) = at (one_change (replies.Published s.version.etag s.name v.etag) [] V) d (omega arith)
    by (gone p d) = at (only_reply (replies.Gone n)) d (omega arith)
    by (passed now p d) = at (only_reply (replies.Passed now)) d (omega arith)
    by (cleaned upto o p d) = at (only_reply (replies.Cleaned upto)) d (omega arith)

-- if memory runs out, nothing is changed
pub lacks : (n : ℕ) (v : Version) (x y : Lived) (c : Course) → c ≡ publication x.world n v → IsMadeInPart c.changes x y → Stays x y
lacks n v x y c same part = alone (publication x.world n v).changes x y (few x.world n v) (subst (λ (k : Course). IsMadeInPart k.changes x y) same part)

-- nor a row written
pub no_etags : (x y : Lived) → Stays x y → etags y ≡ etags x
no_etags x y stays = ap (λ (W : World). etags (lived W x.keeper x.fronts)) stays.0
