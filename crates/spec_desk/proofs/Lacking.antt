-- Where memory ran out.
use Rattle.std.proofs.Common.{◌≡◌, ◌≢◌, ℕ, ◌==◌, List, [], ◌∷◌, false, refl, subst, arith, inl, inr}
use Rattle.std.specs.Prelude.{◌⊎◌, None, Option}
use Rattle.spec_server.specs.Requests.{Pump, Request, Tidy}
use Rattle.spec_server.specs.Courses.{Change}
use Rattle.spec_server.specs.Machine.{course_of}
use Rattle.spec_server.specs.Replies.{Reply}
use Rattle.spec_desk.specs.Keepers.{MayGive}
use Rattle.spec_desk.specs.Lacking.{IsCutShort, LacksAt, LacksOnce, StaysOnce, StopsCatchingUp}
use Rattle.spec_desk.specs.Lacking.StopsBatches.{in_batch, in_tidy}
use Rattle.spec_desk.specs.Lived.{Follows, Lived, etags}
use Rattle.spec_desk.specs.Receipts.{AllLink, Onward, Standing}
use Rattle.spec_desk.specs.Receipts.Onward.{same, on}
use Rattle.spec_desk.specs.Stepped.{IsMadeInPart, IsStep, Stays}
use Rattle.spec_desk.proofs.Later.{Follows-itself, Follows-then, etags-more}
use Rattle.spec_desk.proofs.Onwards.{all_on, head}
use Rattle.spec_desk.proofs.Parts.{alone}

-- IN ONE HOLD

-- nothing was done
pub lacks_itself : (clock : Option ℕ) (q : Request) (x : Lived) → LacksAt clock q x x
lacks_itself clock q x = record { made = inl (refl, refl); fronts = refl }

-- a course was made in part
pub cut_short : (clock : Option ℕ) (now : ℕ) (q : Request) (x y : Lived) → MayGive clock now → IsMadeInPart (course_of x.world now q).changes x y → Stays x y ⊎ IsCutShort clock q x y
cut_short clock now q x y may part = by (course_of x.world now q).changes refl
  where
    by : (changes : List Change) → (course_of x.world now q).changes ≡ changes → Stays x y ⊎ IsCutShort clock q x y
    by [] e = inl (alone (course_of x.world now q).changes x y (rw e (omega arith)) part)
    by (c ∷ []) e = inl (alone (course_of x.world now q).changes x y (rw e (omega arith)) part)
    by (c ∷ d ∷ more) e = inr (record { now = now; may = may; several = rw e (omega arith); part = part })

-- what is known of the step of a request where memory ran out
pub lacks_step : (clock : Option ℕ) (now : ℕ) (q : Request) (x y : Lived) → MayGive clock now → Stays x y ⊎ IsMadeInPart (course_of x.world now q).changes x y → y.fronts ≡ x.fronts → LacksAt clock q x y
lacks_step clock now q x y may did fronts = record {
  made = elim did [ inl stays ↦ inl stays | inr part ↦ cut_short clock now q x y may part ];
  fronts = fronts;
}

-- OF DESKS

-- nothing was found out, or done
pub lacks_none : (Link : Lived → Lived → Type 0) (x : Standing) (q : Request) (found : Lived) (y : Standing) → AllLink Link x.seen found → y.seen ≡ found ∷ [] → y.made ≡ x.made → LacksOnce Link x q y
lacks_none Link x q found y after now_seen now_made = record {
  found = found;
  left = found;
  after = after;
  lacks = lacks_itself x.clock q found;
  later = Follows-itself found;
  now_seen = now_seen;
  now_made = omega arith;
}

-- what follows all that was seen later follows all that was seen before
pub onward_all : (a b : List Lived) (x : Lived) → Onward a b → AllLink Follows b x → AllLink Follows a x
onward_all a b x (same e) h = subst (λ l. AllLink Follows l x) e h
onward_all a b x (on y k e) h = all_on a y x k (head Follows y x (subst (λ l. AllLink Follows l x) e h))

-- a hold after a look, which changed nothing
pub lacks_after : (q : Request) (before mid after : Standing) → Onward before.seen mid.seen → mid.clock ≡ before.clock → mid.made ≡ before.made → LacksOnce Follows mid q after
    → LacksOnce Follows before q after
lacks_after q before mid after onward clock kept l = record {
  found = l.found;
  left = l.left;
  after = onward_all before.seen mid.seen l.found onward l.after;
  lacks = subst (λ (c : Option ℕ). LacksAt c q l.found l.left) clock l.lacks;
  later = l.later;
  now_seen = l.now_seen;
  now_made = let m = l.now_made in omega arith;
}

-- AFTER A REQUEST

some_pump : (n : ℕ) → (n == 0) ≡ false → n ≢ 0
some_pump n e = λ z. absurd (let same = subst (λ (k : ℕ). (k == 0) ≡ false) z e in cc)

-- memory ran out in the batches
pub stops_in_batch : (left end : Lived) (x y : Standing) → (x.pump == 0) ≡ false → LacksAt x.clock (Pump x.pump None) left end → Follows left end → x.made ≡ etags left → y.seen ≡ end ∷ []
    → y.made ≡ etags end → StopsCatchingUp left x y
stops_in_batch left end x y some lacks later was_made now_seen now_made = record {
  end = end;
  some = some_pump x.pump some;
  stops = in_batch lacks;
  later = later;
  now_seen = now_seen;
  now_made = let more = etags-more left end later in omega arith;
}

-- or in the Tidy
pub stops_in_tidy : (left mid end : Lived) (x y : Standing) (now : ℕ) (pumped : Reply) → (x.pump == 0) ≡ false → MayGive x.clock now → IsStep now (Pump x.pump None) left pumped mid → Follows left mid
    → LacksAt x.clock Tidy mid end → Follows mid end → x.made ≡ etags left → y.seen ≡ end ∷ [] → y.made ≡ etags end → StopsCatchingUp left x y
stops_in_tidy left mid end x y now pumped some may step later lacks goes was_made now_seen now_made = record {
  end = end;
  some = some_pump x.pump some;
  stops = in_tidy pumped mid (now, may, step) lacks;
  later = Follows-then left mid end later goes;
  now_seen = now_seen;
  now_made = let more = etags-more left end (Follows-then left mid end later goes) in omega arith;
}

-- of what a desk of one caller has seen
pub alone_stops : (a b : Lived) (x y : Standing) → a ∷ [] ≡ b ∷ [] → StopsCatchingUp a x y → StopsCatchingUp b x y
alone_stops a b x y e m = let same : a ≡ b = cc in subst (λ (z : Lived). StopsCatchingUp z x y) same m

-- nothing was changed in a hold that found x and left y
pub stays_once : (seen seen' : List Lived) (x y : Lived) → AllLink Follows seen x → Stays x y → Follows x y → seen' ≡ y ∷ [] → StaysOnce seen seen'
stays_once seen seen' x y after stays later now_seen = record { found = x; left = y; after = after; stays = stays; later = later; now_seen = now_seen }

-- or in that hold, which followed a look
pub stays_after : (a b c : List Lived) → Onward a b → StaysOnce b c → StaysOnce a c
stays_after a b c onward s = record { found = s.found; left = s.left; after = onward_all a b s.found onward s.after; stays = s.stays; later = s.later; now_seen = s.now_seen }
