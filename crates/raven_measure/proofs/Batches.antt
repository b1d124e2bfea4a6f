-- Batches, one after another, until one moves no etag.
use Rattle.std.proofs.Common.{◌≡◌, ℕ, ◌+◌, ◌<◌, List, [], ◌∷◌, Bool, true, false, Option, map, refl, sym, ap, ◌∙◌, subst, arith}
use Rattle.std.proofs.lemmas.List.{replicate_more}
use Rattle.std.specs.Prelude.{replicate}
use Rattle.spec_index.specs.World.{World}
use Rattle.spec_measure.specs.Requests.{Options, index_name, pumping}
use Rattle.spec_measure.specs.Summary.{Timed, after_all, event_of, is_moving, moving, one_if}
use Rattle.spec_server.specs.Requests.{Do, Request, takes_all}
use Rattle.spec_server.specs.Courses.{Machine}
use Rattle.spec_server.specs.Machine.{after, course_of, machine_of}
use Rattle.spec_server.specs.Sound.{IsMachine, Sound}
use Rattle.raven_laws.proofs.MachineLemmas.{step-Steps}
use Rattle.spec_desk.specs.Lived.{machine_in}
use Rattle.raven_measure.specs.Doing.{Does, State, Stops, StopsCatchingUp}
use Rattle.raven_measure.specs.declared.making.Stop.{Stop}
use Rattle.raven_measure.proofs.Behind.{behind, lowers}
use Rattle.raven_measure.proofs.Doing.{does_more, does_nothing, stops_after}

-- ONE REQUEST

-- the moment at which it was made, and what it left
record DoesOne (A : State) (r : Request) (B : State) : Type 0 where
  pub now : ℕ
  pub left : machine_in B.live ≡ after (machine_in A.live) (event_of (record { request = r; now = now }))
  pub moved : B.moved ≡ A.moved + one_if (is_moving (course_of A.live.world now r).reply)

one_of : (clock : Option ℕ) (A B : State) (r : Request) → Does clock A (r ∷ []) B → DoesOne A r B
one_of clock A B r d = by d.timed d.asked d.left d.moved
  where
    with_request : (t : Timed) → t.request ≡ r → machine_in B.live ≡ after (machine_in A.live) (event_of t)
        → B.moved ≡ A.moved + (one_if (is_moving (course_of A.live.world t.now t.request).reply) + 0) → DoesOne A r B
    with_request t e l m = record {
      now = t.now;
      left = l ∙ ap (λ q. after (machine_in A.live) (event_of (record { request = q; now = t.now }))) e;
      moved =
          let same = ap (λ q. one_if (is_moving (course_of A.live.world t.now q).reply)) e in
          omega arith;
    }

    by : (ts : List Timed) → map (λ (t : Timed). t.request) ts ≡ r ∷ [] → machine_in B.live ≡ after_all ts (machine_in A.live) → B.moved ≡ A.moved + moving ts (machine_in A.live) → DoesOne A r B
    by [] e l m = absurd cc
    by (t ∷ []) e l m = let same : t.request ≡ r = cc in with_request t same l m
    by (t ∷ u ∷ ts) e l m = absurd cc

-- SOME BATCHES

pub record HasPumped (clock : Option ℕ) (o : Options) (before after : State) : Type 0 where
  pub more : ℕ
  pub does : Does clock before (replicate more (pumping o)) after

pub pumped_none : (clock : Option ℕ) (o : Options) (A : State) → HasPumped clock o A A
pumped_none clock o A = record { more = 0; does = does_nothing clock A }

pub pumped_more : (clock : Option ℕ) (o : Options) (A B C : State) → HasPumped clock o A B → Does clock B (pumping o ∷ []) C → HasPumped clock o A C
pumped_more clock o A B C h d = record {
  more = h.more + 1;
  does = subst (λ rs. Does clock A rs C) (replicate_more h.more (pumping o)) (does_more clock A B C (replicate h.more (pumping o)) (pumping o ∷ []) h.does d);
}

-- and then one that was not made
pub pumped_short : (clock : Option ℕ) (o : Options) (A B C : State) (why : Stop) → HasPumped clock o A B → Stops clock B (pumping o ∷ []) C why → StopsCatchingUp clock o A C why
pumped_short clock o A B C why h s = record {
  more = h.more + 1;
  stops = subst (λ rs. Stops clock A rs C why) (replicate_more h.more (pumping o)) (stops_after clock A B C (replicate h.more (pumping o)) (pumping o ∷ []) why h.does s);
}

-- a batch that moved the etag
pub record Moves (A B : State) : Type 0 where
  pub moved : B.moved ≡ A.moved + 1
  pub closer : behind index_name B.live.world < behind index_name A.live.world
  pub sound : Sound B.live.world

idle : (W : World) → Sound W → IsMachine (machine_of W)
idle W sound = record { world = sound; held = λ h has. absurd has }

pub moves : (clock : Option ℕ) (o : Options) (A B : State) → Does clock A (pumping o ∷ []) B → Sound A.live.world → (B.moved ≡ A.moved → ⊥) → Moves A B
moves clock o A B d sound differs = by (is_moving (course_of A.live.world one.now (pumping o)).reply) refl
  where
    one : DoesOne A (pumping o) B
    one = one_of clock A B (pumping o) d

    by : (b : Bool) → is_moving (course_of A.live.world one.now (pumping o)).reply ≡ b → Moves A B
    by false e = absurd (differs (let none = ap one_if e in let moved = one.moved in omega arith))
    by true e = record {
      moved = let some = ap one_if e in let moved = one.moved in omega arith;
      closer = subst (λ (M : Machine). behind index_name M.world < behind index_name A.live.world) (sym one.left) (lowers index_name (machine_in A.live) one.now o.batch sound e);
      sound = subst (λ (M : Machine). Sound M.world) (sym one.left) (step-Steps (machine_in A.live) takes_all one.now (Do (pumping o)) tt (idle A.live.world sound)).machine.world;
    }
