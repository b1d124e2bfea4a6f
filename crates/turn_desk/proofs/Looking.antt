-- Looks of a desk over a turn.
use Rattle.std.proofs.Common.{◌≡◌, ℕ, ◌+◌, ◌-◌, [], ◌∷◌, true, Option, Result, Ok, Err, IfOk, OnErr, refl, sym, ◌∙◌, ap, subst, arith}
use Rattle.spec_query.specs.Query as query
use Rattle.spec_index.specs.World.{World}
use Rattle.spec_server.specs.Asking.{Ready, answer_ask}
use Rattle.spec_server.specs.Requests.{Ask, Auto, Bulk, Clean, Define, Delete, Find, Get, Indexes, Mask, Multi, Pump, Put, Remove, Request, Stale, Stats, Switch, Tidy}
use Rattle.spec_server.specs.Courses.{Course, only_reply}
use Rattle.spec_server.specs.Indexing.{ask_course}
use Rattle.spec_server.specs.Machine.{course_of}
use Rattle.spec_server.specs.Replies.{Reply}
use Rattle.spec_server.specs.Sound.{Sound}
use Rattle.spec_desk.specs.Keepers.{MayGive}
use Rattle.spec_desk.specs.Lacking.{LacksAt, LacksOnce}
use Rattle.spec_desk.specs.Lived.{Follows, Lived, Seen, etags, seen_of}
use Rattle.spec_desk.specs.Stepped.{IsStep, IsStepAt, Makes}
use Rattle.spec_desk.specs.Receipts.{AllLink, LooksOnce, Onward, Standing}
use Rattle.spec_desk.proofs.Lacking.{onward_all}
use Rattle.spec_desk.proofs.Later.{Follows-itself}
use Rattle.spec_desk.proofs.Making.{stepped}
use Rattle.turn_desk.specs.Holding.{HasStepped}
use Rattle.turn_desk.specs.Reading.{changes_nothing}

-- WHAT CHANGES NOTHING

-- what such a request makes of a world
pub makes_nothing : (W : World) (now : ℕ) (q : Request) → changes_nothing q ≡ true → (course_of W now q).changes ≡ []
makes_nothing W now (Get id) e = refl
makes_nothing W now (Find index field words) e = refl
makes_nothing W now (Mask ask) e = refl
makes_nothing W now (Stale name cutoff) e = refl
makes_nothing W now Indexes e = refl
makes_nothing W now Stats e = refl
makes_nothing W now (Put id expected body) e = absurd cc
makes_nothing W now (Delete id expected) e = absurd cc
makes_nothing W now (Bulk commands) e = absurd cc
makes_nothing W now (Define name definition) e = absurd cc
makes_nothing W now (Multi parts) e = absurd cc
makes_nothing W now (Remove name) e = absurd cc
makes_nothing W now (Auto collection field) e = absurd cc
makes_nothing W now (Ask ask) e = absurd cc
makes_nothing W now (Pump max index) e = absurd cc
makes_nothing W now (Switch name) e = absurd cc
makes_nothing W now Tidy e = absurd cc
makes_nothing W now Clean e = absurd cc

-- a course without changes is a step that leaves what it found
stays : (now : ℕ) (q : Request) (x : Lived) (o : Course) → o ≡ course_of x.world now q → o.changes ≡ [] → IsStep now q x o.reply x
stays now q x o is none =
    let m : Makes x.keeper.count [] o.reply x o.reply x = record { takes = []; asked = (refl, refl); made_is = λ all. refl; fronts = refl } in
    stepped now q x o.reply x
    (subst (λ (c : Course). Makes x.keeper.count c.changes c.reply x o.reply x) is (subst (λ cs. Makes x.keeper.count cs o.reply x o.reply x) (sym none) m))

-- a request that was answered on a look
pub answered : (now : ℕ) (q : Request) (x : Lived) (W : World) (shot : Seen) (o : Course) (before after : Standing) → MayGive before.clock now → AllLink Follows before.seen x → shot ≡ seen_of x → W ≡ shot.world
    → Sound shot.world → o ≡ course_of W now q → o.changes ≡ [] → after.seen ≡ x ∷ [] → after.made ≡ before.made → LooksOnce Follows before q shot o.reply after
answered now q x W shot o before after may linked shown at sound is none now_seen now_made = record {
  found = x;
  left = x;
  after = linked;
  sound = subst (λ (s : Seen). Sound s.world) shown sound;
  shown = shown;
  step = (now, may, stays now q x o (is ∙ ap (λ (V : World). course_of V now q) (at ∙ ap (λ (s : Seen). s.world) shown)) none);
  later = Follows-itself x;
  now_seen = now_seen;
  now_made = omega arith;
}

-- a query that was
pub answered_query : (now : ℕ) (ask : query.Ask) (x : Lived) (W : World) (shot : Seen) (reply : Reply) (before after : Standing) → MayGive before.clock now → AllLink Follows before.seen x → shot ≡ seen_of x
    → W ≡ shot.world → Sound shot.world → answer_ask W ask ≡ Ready reply → after.seen ≡ x ∷ [] → after.made ≡ before.made → LooksOnce Follows before (Ask ask) shot reply after
answered_query now ask x W shot reply before after may linked shown at sound is now_seen now_made =
    answered now (Ask ask) x W shot (only_reply reply) before after may linked shown at sound (sym (ap (ask_course W now ask) is)) refl now_seen now_made

-- HOLDS

-- one hold with a step
pub held_looks : {T E : Type 0} (view : T → Reply) (r : Result (Seen × T) E) (q : Request) (x y : Lived) (before after : Standing) → AllLink Follows before.seen x → Follows x y
    → IfOk r (λ o. HasStepped before.clock q x o.0 (view o.1) y) → after.seen ≡ y ∷ [] → after.made ≡ before.made + (etags y - etags x) → IfOk r (λ o. LooksOnce Follows before q o.0 (view o.1) after)
held_looks view (Err e) q x y before after linked later did now_seen now_made = tt
held_looks view (Ok o) q x y before after linked later did now_seen now_made = record {
  found = x;
  left = y;
  after = linked;
  sound = did.sound;
  shown = did.shown;
  step = did.step;
  later = later;
  now_seen = now_seen;
  now_made = now_made;
}

-- one hold in which memory ran out
pub held_lacks : {T E : Type 0} (r : Result T E) (q : Request) (x y : Lived) (before after : Standing) → AllLink Follows before.seen x → Follows x y → OnErr r (LacksAt before.clock q x y)
    → after.seen ≡ y ∷ [] → after.made ≡ before.made + (etags y - etags x) → OnErr r (LacksOnce Follows before q after)
held_lacks (Ok o) q x y before after linked later lacks now_seen now_made = tt
held_lacks (Err e) q x y before after linked later lacks now_seen now_made =
    record { found = x; left = y; after = linked; lacks = lacks; later = later; now_seen = now_seen; now_made = now_made }

-- a hold after a look, which changed nothing
pub looks_after : {T E : Type 0} (view : T → Reply) (r : Result (Seen × T) E) (q : Request) (before mid after : Standing) → Onward before.seen mid.seen → mid.clock ≡ before.clock → mid.made ≡ before.made
    → IfOk r (λ o. LooksOnce Follows mid q o.0 (view o.1) after) → IfOk r (λ o. LooksOnce Follows before q o.0 (view o.1) after)
looks_after view (Err e) q before mid after onward clock kept l = tt
looks_after view (Ok o) q before mid after onward clock kept l = record {
  found = l.found;
  left = l.left;
  after = onward_all before.seen mid.seen l.found onward l.after;
  sound = l.sound;
  shown = l.shown;
  step = subst (λ (c : Option ℕ). IsStepAt c q l.found (view o.1) l.left) clock l.step;
  later = l.later;
  now_seen = l.now_seen;
  now_made = l.now_made ∙ ap (λ n. n + (etags l.left - etags l.found)) kept;
}
