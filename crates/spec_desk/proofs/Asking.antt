-- A desk that is being asked.
use Rattle.std.proofs.Common.{◌≡◌, ◌≢◌, ℕ, ◌+◌, ◌-◌, ◌≤◌, ◌++◌, List, [], ◌∷◌, length, length-append, refl, subst, arith}
use Rattle.std.specs.Prelude.{IsTrue, Option}
use Rattle.spec_server.specs.Requests.{Request}
use Rattle.spec_server.specs.Replies.{Reply}
use Rattle.spec_desk.specs.Lacking.{IsUnanswered, LacksAt, LacksOnce, StopsBatches, StopsCatchingUp}
use Rattle.spec_desk.specs.Lacking.IsUnanswered.{behind, in_look}
use Rattle.spec_desk.specs.Lived.{Lived, Seen, etags}
use Rattle.spec_desk.specs.Receipts.{AllLink, CatchesUp, IsAsked, Look, LooksOnce, HasCaughtUp, Receipt, Standing, Waits, looks_of, says_stale}
use Rattle.spec_desk.specs.Stepped.{IsStepAt}
use Rattle.spec_desk.proofs.Lacking.{lacks_itself}
use Rattle.spec_desk.proofs.Later.{Follows-itself}
use Rattle.spec_desk.proofs.Onwards.{head}

module _ (Link : Lived → Lived → Type 0) (q : Request) where
  -- a desk that stood as x and now stands as y: the looks so far
  pub record Asking (x : Standing) (earlier : List Seen) (shot : Seen) (reply : Reply) (y : Standing) : Type 0 where
    pub first : Lived
    pub before : Lived
    pub found : Lived
    pub left : Lived
    pub took : ℕ
    pub after : AllLink Link x.seen first
    pub waits : Waits Link x.clock q first earlier before took
    pub look : Look Link x.clock q before found shot reply left
    pub now_seen : y.seen ≡ left ∷ []
    pub now_made : y.made ≡ x.made + took + (etags left - etags found)

  pub begins : ((z : Lived) → Link z z) → (x : Standing) (shot : Seen) (reply : Reply) (y : Standing) → LooksOnce Link x q shot reply y → Asking x [] shot reply y
  begins same x shot reply y l = record {
    first = l.found;
    before = l.found;
    found = l.found;
    left = l.left;
    took = 0;
    after = l.after;
    waits = (refl, refl);
    look = record { link = same l.found; sound = l.sound; shown = l.shown; step = l.step; later = l.later };
    now_seen = l.now_seen;
    now_made = let m = l.now_made in omega arith;
  }

  waits_more : (clock : Option ℕ) (x : Lived) (looks : List Seen) (y found z : Lived) (shot : Seen) (reply : Reply) (n : ℕ) → Waits Link clock q x looks y n → Look Link clock q y found shot reply z
      → IsTrue (says_stale reply) → Waits Link clock q x (looks ++ shot ∷ []) z (n + (etags z - etags found))
  waits_more clock x [] y found z shot reply n w l t =
      (found, z, reply, 0, subst (λ (u : Lived). Look Link clock q u found shot reply z) w.0 l, t, (refl, refl), (let e = w.1 in omega arith))
  waits_more clock x (k ∷ more) y found z shot reply n w l t =
      (w.0, w.1, w.2, w.3 + (etags z - etags found), w.4, w.5, waits_more clock w.1 more y found z shot reply w.3 w.6 l t, (let e = w.7 in omega arith))

  pub again : (x : Standing) (earlier : List Seen) (shot : Seen) (reply : Reply) (mid : Standing) (next : Seen) (answer : Reply) (y : Standing) → Asking x earlier shot reply mid → mid.clock ≡ x.clock
      → IsTrue (says_stale reply) → LooksOnce Link mid q next answer y → Asking x (earlier ++ shot ∷ []) next answer y
  again x earlier shot reply mid next answer y a clock t l = record {
    first = a.first;
    before = a.left;
    found = l.found;
    left = l.left;
    took = a.took + (etags a.left - etags a.found);
    after = a.after;
    waits = waits_more x.clock a.first earlier a.before a.found a.left shot reply a.took a.waits a.look t;
    look = record {
      link = head Link a.left l.found (subst (λ s. AllLink Link s l.found) a.now_seen l.after);
      sound = l.sound;
      shown = l.shown;
      step = subst (λ (c : Option ℕ). IsStepAt c q l.found answer l.left) clock l.step;
      later = l.later;
    };
    now_seen = l.now_seen;
    now_made = let m = l.now_made in let n = a.now_made in omega arith;
  }

  pub ends : (x : Standing) (r : Receipt) (mid y : Standing) → Asking x r.earlier r.shot r.reply mid → mid.clock ≡ x.clock → mid.pump ≡ x.pump → length r.earlier + 1 ≤ looks_of q
      → (IsTrue (says_stale r.reply) → length r.earlier + 1 ≡ looks_of q) → ((z : Lived) → mid.seen ≡ z ∷ [] → HasCaughtUp z mid y) → IsAsked Link x q r y
  ends x r mid y a clock pump most waited caught_up = let m = caught_up a.left a.now_seen in record {
    first = a.first;
    left = a.left;
    end = m.end;
    took = a.took + (etags a.left - etags a.found);
    after = a.after;
    receipt = record { before = a.before; found = a.found; took = a.took; waits = a.waits; last = a.look; number = refl; most = most; waited = waited };
    caught_up = subst (λ (c : Option ℕ). CatchesUp c x.pump a.left m.end) clock (subst (λ (n : ℕ). CatchesUp mid.clock n a.left m.end) pump m.caught_up);
    later = m.later;
    now_seen = m.now_seen;
    now_made = let n = m.now_made in let k = a.now_made in omega arith;
  }

  -- WHERE MEMORY RAN OUT

  -- in the first look
  pub stops_first : ((z : Lived) → Link z z) → (x y : Standing) → 1 ≤ looks_of q → LacksOnce Link x q y → IsUnanswered Link x q y
  stops_first same x y some l = in_look (record {
    first = l.found;
    earlier = [];
    before = l.found;
    took = 0;
    after = l.after;
    waits = (refl, refl);
    most = some;
    found = l.found;
    left = l.left;
    link = same l.found;
    lacks = l.lacks;
    later = l.later;
    now_seen = l.now_seen;
    now_made = let m = l.now_made in omega arith;
  })

  -- before a look that follows others
  pub stops_between : ((z : Lived) → Link z z) → (x : Standing) (earlier : List Seen) (shot : Seen) (reply : Reply) (y : Standing) → Asking x earlier shot reply y → IsTrue (says_stale reply)
      → length earlier + 2 ≤ looks_of q → IsUnanswered Link x q y
  stops_between same x earlier shot reply y a t most = in_look (record {
    first = a.first;
    earlier = earlier ++ shot ∷ [];
    before = a.left;
    took = a.took + (etags a.left - etags a.found);
    after = a.after;
    waits = waits_more x.clock a.first earlier a.before a.found a.left shot reply a.took a.waits a.look t;
    most = rw length-append (omega arith);
    found = a.left;
    left = a.left;
    link = same a.left;
    lacks = lacks_itself x.clock q a.left;
    later = Follows-itself a.left;
    now_seen = a.now_seen;
    now_made = let m = a.now_made in omega arith;
  })

  -- in such a look
  pub stops_again : (x : Standing) (earlier : List Seen) (shot : Seen) (reply : Reply) (mid y : Standing) → Asking x earlier shot reply mid → mid.clock ≡ x.clock → IsTrue (says_stale reply)
      → length earlier + 2 ≤ looks_of q → LacksOnce Link mid q y → IsUnanswered Link x q y
  stops_again x earlier shot reply mid y a clock t most l = in_look (record {
    first = a.first;
    earlier = earlier ++ shot ∷ [];
    before = a.left;
    took = a.took + (etags a.left - etags a.found);
    after = a.after;
    waits = waits_more x.clock a.first earlier a.before a.found a.left shot reply a.took a.waits a.look t;
    most = rw length-append (omega arith);
    found = l.found;
    left = l.left;
    link = head Link a.left l.found (subst (λ s. AllLink Link s l.found) a.now_seen l.after);
    lacks = subst (λ (c : Option ℕ). LacksAt c q l.found l.left) clock l.lacks;
    later = l.later;
    now_seen = l.now_seen;
    now_made = let m = l.now_made in let n = a.now_made in omega arith;
  })

  -- behind the request
  pub stops_behind : (x : Standing) (r : Receipt) (mid y : Standing) → Asking x r.earlier r.shot r.reply mid → mid.clock ≡ x.clock → mid.pump ≡ x.pump → length r.earlier + 1 ≤ looks_of q
      → (IsTrue (says_stale r.reply) → length r.earlier + 1 ≡ looks_of q) → ((z : Lived) → mid.seen ≡ z ∷ [] → StopsCatchingUp z mid y) → IsUnanswered Link x q y
  stops_behind x r mid y a clock pump most waited stopped = let m = stopped a.left a.now_seen in behind (record {
    first = a.first;
    lost = r;
    left = a.left;
    end = m.end;
    took = a.took + (etags a.left - etags a.found);
    after = a.after;
    receipt = record { before = a.before; found = a.found; took = a.took; waits = a.waits; last = a.look; number = refl; most = most; waited = waited };
    some = subst (λ (n : ℕ). n ≢ 0) pump m.some;
    stops = subst (λ (c : Option ℕ). StopsBatches c x.pump a.left m.end) clock (subst (λ (n : ℕ). StopsBatches mid.clock n a.left m.end) pump m.stops);
    later = m.later;
    now_seen = m.now_seen;
    now_made = let n = m.now_made in let k = a.now_made in omega arith;
  })
