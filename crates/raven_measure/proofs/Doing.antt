-- Requests that are made one after another.
use Rattle.std.proofs.Common.{◌≡◌, ℕ, ◌+◌, ◌≤◌, List, [], ◌∷◌, ◌++◌, Bool, true, false, Option, length, map, append_assoc, refl, sym, ap, ◌∙◌, subst, arith}
use Rattle.spec_measure.specs.Summary.{Timed, after_all, event_of, is_moving, moving, one_if}
use Rattle.spec_server.specs.Requests.{Request}
use Rattle.spec_server.specs.Courses.{Machine}
use Rattle.spec_server.specs.Machine.{after, course_of}
use Rattle.spec_desk.specs.Lived.{Lived, machine_in}
use Rattle.spec_desk.proofs.Later.{Follows-itself, Follows-then}
use Rattle.raven_measure.specs.Doing.{AreMade, AreMoments, Does, IsNotTaken, State, Stops}
use Rattle.raven_measure.specs.declared.making.Stop.{Stop}
use Rattle.raven_measure.specs.declared.making.Stop.TheVariants.{Kept, NoMemory as OutOfMemory}

after_all-append : (ts us : List Timed) (M : Machine) → after_all (ts ++ us) M ≡ after_all us (after_all ts M)
after_all-append [] us M = refl
after_all-append (t ∷ ts) us M = after_all-append ts us (after M (event_of t))

moving-append : (ts us : List Timed) (M : Machine) → moving (ts ++ us) M ≡ moving ts M + moving us (after_all ts M)
moving-append [] us M = omega arith
moving-append (t ∷ ts) us M =
    let h = moving-append ts us (after M (event_of t)) in
    let n = one_if (is_moving (course_of M.world t.now t.request).reply) in
    omega arith

asked-append : (ts us : List Timed) → map (λ (t : Timed). t.request) (ts ++ us) ≡ map (λ (t : Timed). t.request) ts ++ map (λ (t : Timed). t.request) us
asked-append [] us = refl
asked-append (t ∷ ts) us = ap (λ z. t.request ∷ z) (asked-append ts us)

AreMoments-append : (clock : Option ℕ) (ts us : List Timed) → AreMoments clock ts → AreMoments clock us → AreMoments clock (ts ++ us)
AreMoments-append clock [] us a b = b
AreMoments-append clock (t ∷ ts) us a b = (a.0, AreMoments-append clock ts us a.1 b)

AreMade-append : (ts us : List Timed) (x y z : Lived) → AreMade x ts y → AreMade y us z → AreMade x (ts ++ us) z
AreMade-append [] us x y z a b = subst (λ (w : Lived). AreMade w us z) a b
AreMade-append (t ∷ ts) us x y z a b = (a.0, a.1, AreMade-append ts us a.0 y z a.2 b)

pub does_more : (clock : Option ℕ) (A B C : State) (xs ys : List Request) → Does clock A xs B → Does clock B ys C → Does clock A (xs ++ ys) C
does_more clock A B C xs ys a b = record {
  timed = a.timed ++ b.timed;
  asked = asked-append a.timed b.timed ∙ ap (λ z. z ++ map (λ (t : Timed). t.request) b.timed) a.asked ∙ ap (λ z. xs ++ z) b.asked;
  moments = AreMoments-append clock a.timed b.timed a.moments b.moments;
  made = AreMade-append a.timed b.timed A.live B.live C.live a.made b.made;
  left = b.left ∙ ap (after_all b.timed) a.left ∙ sym (after_all-append a.timed b.timed (machine_in A.live));
  moved =
      let first = a.moved in
      let second = b.moved in
      let same : moving b.timed (machine_in B.live) ≡ moving b.timed (after_all a.timed (machine_in A.live)) = ap (moving b.timed) a.left in
      let both = moving-append a.timed b.timed (machine_in A.live) in
      omega arith;
  later = Follows-then A.live B.live C.live a.later b.later;
}

pub does_nothing : (clock : Option ℕ) (A : State) → Does clock A [] A
does_nothing clock A = record { timed = []; asked = refl; moments = tt; made = refl; left = refl; moved = omega arith; later = Follows-itself A.live }

-- HOW MANY BATCHES MOVED AN ETAG

at_most_one : (b : Bool) → one_if b ≤ 1
at_most_one true = omega arith
at_most_one false = omega arith

moving-few : (ts : List Timed) (M : Machine) → moving ts M ≤ length (map (λ (t : Timed). t.request) ts)
moving-few [] M = omega arith
moving-few (t ∷ ts) M =
    let one = at_most_one (is_moving (course_of M.world t.now t.request).reply) in
    let more = moving-few ts (after M (event_of t)) in
    omega arith

-- no more than there were requests
pub moved_few : (clock : Option ℕ) (A B : State) (rs : List Request) → Does clock A rs B → B.moved ≤ A.moved + length rs
moved_few clock A B rs d =
    let few = moving-few d.timed (machine_in A.live) in
    let same = ap length d.asked in
    let moved = d.moved in
    omega arith

-- ONLY THE FIRST WERE MADE

-- the one request was not made
pub stops_one : (clock : Option ℕ) (A B : State) (r : Request) (why : Stop) → B.live.world ≡ A.live.world → B.live.keeper.held ≡ A.live.keeper.held
    → (why ≡ Kept → IsNotTaken clock r A.live B.live) → Stops clock A (r ∷ []) B why
stops_one clock A B r why w h cause =
    record { done = []; next = r; more = []; split = refl; reached = A; does = does_nothing clock A; world = w; held = h; cause = cause }

-- memory ran out before anything was asked of the keeper
pub stops_at_once : (clock : Option ℕ) (A : State) (r : Request) (more : List Request) → Stops clock A (r ∷ more) A OutOfMemory
stops_at_once clock A r more =
    record { done = []; next = r; more = more; split = refl; reached = A; does = does_nothing clock A; world = refl; held = refl; cause = λ kept. absurd cc }

-- the first requests were made, and of others some were not
pub stops_after : (clock : Option ℕ) (A B C : State) (xs ys : List Request) (why : Stop) → Does clock A xs B → Stops clock B ys C why → Stops clock A (xs ++ ys) C why
stops_after clock A B C xs ys why d s = record {
  done = xs ++ s.done;
  next = s.next;
  more = s.more;
  split = ap (λ z. xs ++ z) s.split ∙ sym (append_assoc xs s.done (s.next ∷ s.more));
  reached = s.reached;
  does = does_more clock A B s.reached xs s.done d s.does;
  world = s.world;
  held = s.held;
  cause = s.cause;
}

-- so others were not made either
pub stops_before : (clock : Option ℕ) (A C : State) (xs ys : List Request) (why : Stop) → Stops clock A xs C why → Stops clock A (xs ++ ys) C why
stops_before clock A C xs ys why s = record {
  done = s.done;
  next = s.next;
  more = s.more ++ ys;
  split = ap (λ z. z ++ ys) s.split ∙ append_assoc s.done (s.next ∷ s.more) ys;
  reached = s.reached;
  does = s.does;
  world = s.world;
  held = s.held;
  cause = s.cause;
}

pub ruleset nothing = (does_nothing, stops_at_once)
