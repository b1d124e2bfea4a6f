-- How the jobs end.
use Rattle.std.proofs.Common.{◌≡◌, ℕ, zero, suc, ◌+◌, ◌≤◌, ◌++◌, List, [], ◌∷◌, length, Bool, true, false, refl, sym, ◌∙◌, ap, subst, arith, inl, inr}
use mathlib.Core.Option.{some, some-injective, some-ne-none}
use lib.ListN.{get_elem?}
use Rattle.std.specs.Prelude.{Option, Some, None, All, map, ◌||◌, ◌⊎◌, MatchBool}
use Rattle.std.specs.List.{AllZip}
use Rattle.std.proofs.lemmas.List.Elements.{All-cons, All-nil, All-head, All-tail}
use Rattle.atomic_table.specs.Seated.{TableId}
use Rattle.raven_ports.specs.Faults.{Rose}
use Rattle.raven_ports.specs.States.{KeeperState}
use Rattle.http_read.specs.declared.request.HttpRequest.{HttpRequest}
use Rattle.raven_turn.specs.Passes.{IsOneOf, Knowledge}
use Rattle.spec_desk.specs.Keepers.{Keeps}
use Rattle.doc_keeper.specs.declared.loading.LoadFault.{LoadFault}
use Rattle.doc_keeper.specs.declared.loading.LoadFault.TheVariants as load
use Rattle.spec_server.specs.Options.{setting_with}
use Rattle.raven_desk.specs.Openings.{Loads, NamesBadRow, Opens}
use Rattle.spec_desk.specs.Lived.{Follows, Lived, lived, machine_in}
use Rattle.spec_desk.specs.Receipts.{AllLink}
use Rattle.spec_desk.proofs.Onwards.{head}
use Rattle.serve_ports.specs.Doors.{Doorway}
use Rattle.raven_serve.specs.Chains.{Chain}
use Rattle.raven_serve.specs.Fronts.{AnswersSeated, IsFront, KeepsSeated, SamePass}
use Rattle.raven_serve.specs.Works.{Belongs, Does, IsDoorDone, Post, Report, any_failed, both, doorless, doors_in, join_all, places, post, posts, share_of, undone, with_door}
use Rattle.raven_serve.specs.Finishing.{Came, EndsSo, HasServed, HaveFailed, IsClosed, IsClosing, IsKeeperOf, IsOpening, IsServed, IsStopped, OneRose, Server, end_of, end_unopened, server}
use Rattle.raven_serve.specs.declared.ends.ServeEnd.TheVariants.{Done, NoThread}

-- what follows all of two lists follows all of each
left_of : (xs ys : List Lived) (y : Lived) → AllLink Follows (xs ++ ys) y → AllLink Follows xs y
left_of [] ys y a = All-nil (λ s. Follows s y)
left_of (x ∷ xs) ys y a = All-cons (λ s. Follows s y) x xs (All-head (λ s. Follows s y) x (xs ++ ys) a) (left_of xs ys y (All-tail (λ s. Follows s y) x (xs ++ ys) a))

right_of : (xs ys : List Lived) (y : Lived) → AllLink Follows (xs ++ ys) y → AllLink Follows ys y
right_of [] ys y a = a
right_of (x ∷ xs) ys y a = right_of xs ys y (All-tail (λ s. Follows s y) x (xs ++ ys) a)

-- what follows all that the joined passes have seen follows all that the first has seen
pub first_of : (p : Knowledge Lived) (outs : List Report) (y : Lived) → AllLink Follows (join_all p outs).seen y → AllLink Follows p.seen y
first_of p [] y a = a
first_of p (o ∷ outs) y a = left_of p.seen o.pass.seen y (first_of (both p o.pass) outs y a)

out_of : (p : Knowledge Lived) (o : Report) (outs : List Report) (y : Lived) → AllLink Follows (join_all p (o ∷ outs)).seen y → AllLink Follows o.pass.seen y
out_of p o outs y a = right_of p.seen o.pass.seen y (first_of (both p o.pass) outs y a)

pub same_turn : (p : Knowledge Lived) (outs : List Report) → (join_all p outs).turn ≡ p.turn
same_turn p [] = refl
same_turn p (o ∷ outs) = same_turn (both p o.pass) outs

pub all_shares : (turn : TableId) (p : Knowledge Lived) (outs : List Report) → All (Belongs turn) outs → (join_all p outs).shares ≡ p.shares + length outs
all_shares turn p [] a = omega arith
all_shares turn p (o ∷ outs) a = omega (arith, all_shares turn (both p o.pass) outs (All-tail (Belongs turn) o outs a), (All-head (Belongs turn) o outs a).1)

-- calls that served connections leave a door's count of faults
chain_faults : {D : Type 0} (A : D → HttpRequest → Bool → List ℕ → D → Type 0) (K : D → D → Type 0) (n : ℕ) (x : D) (d : Doorway) (y : D) (e : Doorway) → Chain A K n x d y e → e.faults ≡ d.faults
chain_faults A K zero x d y e c = ap (λ (f : Doorway). f.faults) c.1
chain_faults A K (suc n) x d y e c = let s = c.3.serves in s.back.faults ∙ s.accepts.faults ∙ chain_faults A K n x d c.0 c.1 c.2

closed_after : (s : Server) (x y : Lived) (d e : Doorway) → IsServed s x y false d e → IsClosed s x y d e
closed_after s x y d e h =
    let r = h.front.runs in
    record { served = h; closed = r.stop.closed; faults = r.stop.faults ∙ chain_faults AnswersSeated KeepsSeated r.calls _ d _ r.between r.chain }

rose_after : (s : Server) (x y : Lived) (d e : Doorway) → IsServed s x y true d e → Rose d.faults e.faults
rose_after s x y d e h = let r = h.front.runs in subst (λ k. Rose k e.faults) (chain_faults AnswersSeated KeepsSeated r.calls _ d _ r.between r.chain) r.stop.faults

late : (a b : Bool) → a ≡ false → (a || b) ≡ true → b ≡ true
late false b e f = f
late true b e f = absurd (let z : ⊥ = cc in z)

first_false : (a b : Bool) → (a || b) ≡ false → a ≡ false
first_false true b e = absurd (let z : ⊥ = cc in z)
first_false false b e = refl

second_false : (a b : Bool) → (a || b) ≡ false → b ≡ false
second_false true b e = absurd (let z : ⊥ = cc in z)
second_false false b e = e

one_of : (a b : Bool) → (a || b) ≡ true → (a ≡ true) ⊎ (b ≡ true)
one_of true b e = inl refl
one_of false b e = inr e

has_door : (job : Post) (d : Doorway) (q : Knowledge Lived) (failed : Bool) (o : Option Doorway) → IsDoorDone job (Some d) q failed o → (e : Doorway) × (o ≡ Some e) × IsFront job.clock job.name job.pass d failed e q
has_door job d q failed None h = absurd h
has_door job d q failed (Some e) h = (e, refl, h)

has_none : (job : Post) (q : Knowledge Lived) (failed : Bool) (o : Option Doorway) → IsDoorDone job None q failed o → o ≡ None
has_none job q failed None h = refl
has_none job q failed (Some e) h = absurd h

has_quiet : (job : Post) (q : Knowledge Lived) (failed : Bool) (o : Option Doorway) → IsDoorDone job None q failed o → failed ≡ false
has_quiet job q failed None h = h
has_quiet job q failed (Some e) h = absurd h

pub places_many : (doors : List Doorway) (n : ℕ) → length (places doors n) ≡ length doors + n
places_many [] zero = refl
places_many [] (suc n) = omega (arith, places_many [] n)
places_many (d ∷ doors) n = omega (arith, places_many doors n)

module _ (base : Knowledge Lived) (clock : Option ℕ) (name : List ℕ) where
  belong : (slots : List (Option Doorway)) (outs : List Report) → AllZip Does (posts base clock name slots) outs → All (Belongs base.turn) outs
  belong [] [] z = All-nil (Belongs base.turn)
  belong [] (o ∷ outs) z = absurd z
  belong (s ∷ slots) [] z = absurd z
  belong (s ∷ slots) (o ∷ outs) z = All-cons (Belongs base.turn) o outs z.0.pass (belong slots outs z.1)

  as_many : (slots : List (Option Doorway)) (outs : List Report) → AllZip Does (posts base clock name slots) outs → length outs ≡ length slots
  as_many [] [] z = refl
  as_many [] (o ∷ outs) z = absurd z
  as_many (s ∷ slots) [] z = absurd z
  as_many (s ∷ slots) (o ∷ outs) z = omega (arith, as_many slots outs z.1)

  belong_undone : (slots : List (Option Doorway)) → All (Belongs base.turn) (map undone (posts base clock name slots))
  belong_undone [] = All-nil (Belongs base.turn)
  belong_undone (s ∷ slots) = All-cons (Belongs base.turn) (undone (post base clock name s)) (map undone (posts base clock name slots)) (refl, refl) (belong_undone slots)

  as_many_undone : (slots : List (Option Doorway)) → length (map undone (posts base clock name slots)) ≡ length slots
  as_many_undone [] = refl
  as_many_undone (s ∷ slots) = omega (arith, as_many_undone slots)

  none_undone : (n : ℕ) → doors_in (map undone (posts base clock name (doorless n))) ≡ []
  none_undone zero = refl
  none_undone (suc n) = none_undone n

  doors_undone : (doors : List Doorway) (n : ℕ) → doors_in (map undone (posts base clock name (places doors n))) ≡ doors
  doors_undone [] n = none_undone n
  doors_undone (d ∷ doors) n = ap (λ l. d ∷ l) (doors_undone doors n)

  pub came_belong : (doors : List Doorway) (n : ℕ) (outs : List Report) (refused : Bool) (jobs : List Post) → jobs ≡ posts base clock name (places doors n) → Came refused jobs outs → All (Belongs base.turn) outs
  came_belong doors n outs true jobs e c = subst (λ (l : List Report). All (Belongs base.turn) l) (sym (c ∙ ap (map undone) e)) (belong_undone (places doors n))
  came_belong doors n outs false jobs e c = belong (places doors n) outs (subst (λ (j : List Post). AllZip Does j outs) e c)

  pub came_many : (doors : List Doorway) (n : ℕ) (outs : List Report) (refused : Bool) (jobs : List Post) → jobs ≡ posts base clock name (places doors n) → Came refused jobs outs → length outs ≡ length doors + n
  came_many doors n outs true jobs e c = ap length (c ∙ ap (map undone) e) ∙ as_many_undone (places doors n) ∙ places_many doors n
  came_many doors n outs false jobs e c = as_many (places doors n) outs (subst (λ (j : List Post). AllZip Does j outs) e c) ∙ places_many doors n

-- JOBS THAT WERE NOT BEGUN

one_of_two : (xs ys : List Lived) (z : Lived) (n : ℕ) → get_elem? (xs ++ ys) n ≡ some z → IsOneOf z xs ⊎ IsOneOf z ys
one_of_two [] ys z n e = inr (n, e)
one_of_two (x ∷ xs) ys z zero e = inl (zero, e)
one_of_two (x ∷ xs) ys z (suc n) e = elim (one_of_two xs ys z n e) [
  | inl k ↦ inl (suc k.0, k.1)
  | inr k ↦ inr k
]

one_single : (x z : Lived) (n : ℕ) → get_elem? (x ∷ []) n ≡ some z → z ≡ x
one_single x z zero e = sym (some-injective x z e)
one_single x z (suc n) e = absurd (some-ne-none z (sym e))

-- if a pass has seen x alone, so has it joined with those of jobs that were not begun, whose pass had seen x
one_undone : (base : Knowledge Lived) (clock : Option ℕ) (name : List ℕ) (x : Lived) → base.seen ≡ x ∷ [] → (slots : List (Option Doorway)) (p : Knowledge Lived)
    → ((z : Lived) → IsOneOf z p.seen → z ≡ x) → (y : Lived) → IsOneOf y (join_all p (map undone (posts base clock name slots))).seen → y ≡ x
one_undone base clock name x seen [] p alone y m = alone y m
one_undone base clock name x seen (d ∷ slots) p alone y m =
    one_undone base clock name x seen slots (both p (share_of base)) (λ z k. elim (one_of_two p.seen base.seen z k.0 k.1) [
      | inl a ↦ alone z a
      | inr b ↦ one_single x z b.0 (subst (λ (l : List Lived). get_elem? l b.0 ≡ some z) seen b.1)
    ]) y m

-- a server whose first pass had seen exactly x, and of which all passes together have seen what y follows
module _ (s : Server) (base : Knowledge Lived) (x y : Lived) (seen : base.seen ≡ x ∷ []) where
  -- what the front of a door leaves
  served_one : (d : Doorway) (o : Report) (e : Doorway) → IsFront s.clock s.name (share_of base) d o.failed e o.pass → AllLink Follows o.pass.seen y → IsServed s x y o.failed d e
  served_one d o e f a = record {
    pass = share_of base;
    seen = seen;
    pass' = o.pass;
    front = f;
    later = head Follows f.end y (subst (λ (l : List Lived). AllLink Follows l y) f.now_seen a);
  }

  none_served : (R : Doorway → Doorway → Type 0) (n : ℕ) (outs : List Report) → AllZip Does (posts base s.clock s.name (doorless n)) outs → AllZip R [] (doors_in outs)
  none_served R zero [] z = tt
  none_served R zero (o ∷ outs) z = absurd z
  none_served R (suc n) [] z = absurd z
  none_served R (suc n) (o ∷ outs) z =
      subst (λ (k : Option Doorway). AllZip R [] (with_door k (doors_in outs))) (sym (has_none (post base s.clock s.name None) o.pass o.failed o.door z.0.door)) (none_served R n outs z.1)

  pub all_stopped : (doors : List Doorway) (n : ℕ) (outs : List Report) (p : Knowledge Lived) → AllZip Does (posts base s.clock s.name (places doors n)) outs → AllLink Follows (join_all p outs).seen y
      → AllZip (IsStopped s x y) doors (doors_in outs)
  all_stopped [] n outs p z a = none_served (IsStopped s x y) n outs z
  all_stopped (d ∷ doors) n [] p z a = absurd z
  all_stopped (d ∷ doors) n (o ∷ outs) p z a =
      let f = has_door (post base s.clock s.name (Some d)) d o.pass o.failed o.door z.0.door in
      subst (λ (k : Option Doorway). AllZip (IsStopped s x y) (d ∷ doors) (with_door k (doors_in outs))) (sym f.1)
      ((o.failed, served_one d o f.0 f.2 (out_of p o outs y a)), all_stopped doors n outs (both p o.pass) z.1 a)

  pub all_closed : (doors : List Doorway) (n : ℕ) (outs : List Report) (p : Knowledge Lived) → AllZip Does (posts base s.clock s.name (places doors n)) outs → AllLink Follows (join_all p outs).seen y
      → any_failed outs ≡ false → AllZip (IsClosed s x y) doors (doors_in outs)
  all_closed [] n outs p z a j = none_served (IsClosed s x y) n outs z
  all_closed (d ∷ doors) n [] p z a j = absurd z
  all_closed (d ∷ doors) n (o ∷ outs) p z a j =
      let f = has_door (post base s.clock s.name (Some d)) d o.pass o.failed o.door z.0.door in
      subst (λ (k : Option Doorway). AllZip (IsClosed s x y) (d ∷ doors) (with_door k (doors_in outs))) (sym f.1) (
        closed_after s x y d f.0 (subst (λ (b : Bool). IsServed s x y b d f.0) (first_false o.failed (any_failed outs) j) (served_one d o f.0 f.2 (out_of p o outs y a))),
        all_closed doors n outs (both p o.pass) z.1 a (second_false o.failed (any_failed outs) j),
      )

  pub one_rose : (doors : List Doorway) (n : ℕ) (outs : List Report) (p : Knowledge Lived) → AllZip Does (posts base s.clock s.name (places doors n)) outs → AllLink Follows (join_all p outs).seen y
      → any_failed outs ≡ true → OneRose doors (doors_in outs)
  one_rose [] zero [] p z a j = absurd (let k : ⊥ = cc in k)
  one_rose [] zero (o ∷ outs) p z a j = absurd z
  one_rose [] (suc n) [] p z a j = absurd z
  one_rose [] (suc n) (o ∷ outs) p z a j =
      one_rose [] n outs (both p o.pass) z.1 a (late o.failed (any_failed outs) (has_quiet (post base s.clock s.name None) o.pass o.failed o.door z.0.door) j)
  one_rose (d ∷ doors) n [] p z a j = absurd z
  one_rose (d ∷ doors) n (o ∷ outs) p z a j =
      let f = has_door (post base s.clock s.name (Some d)) d o.pass o.failed o.door z.0.door in
      subst (λ (k : Option Doorway). OneRose (d ∷ doors) (with_door k (doors_in outs))) (sym f.1)
      (elim (one_of o.failed (any_failed outs) j) [
        | inl t ↦ inl (rose_after s x y d f.0 (subst (λ (b : Bool). IsServed s x y b d f.0) t (served_one d o f.0 f.2 (out_of p o outs y a))))
        | inr u ↦ inr (one_rose doors n outs (both p o.pass) z.1 a u)
      ])

-- THE END

module _ (s : Server) (first : Knowledge Lived) (x : Lived) (n : ℕ) (outs : List Report) (opening : IsOpening s x) (seen : first.seen ≡ x ∷ []) (rest : Knowledge Lived) (rest_seen : rest.seen ≡ first.seen) where
  follows_all : (y : Lived) → AllLink Follows (join_all rest outs).seen y → Follows x y
  follows_all y a = head Follows x y (subst (λ (l : List Lived). AllLink Follows l y) (rest_seen ∙ seen) (first_of rest outs y a))

  has_served : (keeper : Option KeeperState) (P : Lived → Lived → Type 0) → IsClosing (join_all rest outs).seen keeper
      → ((y : Lived) → AllLink Follows (join_all rest outs).seen y → IsOneOf y (join_all rest outs).seen → P x y) → HasServed s keeper P
  has_served None P h f = absurd h
  has_served (Some k) P h f = (x, h.0, opening, record { follows = follows_all h.0 h.1; keeper_is = h.3; keeps = h.4 }, f h.0 h.1 h.2)

  -- if no job was begun, what is left is what was opened
  unchanged : (jobs : List Post) (y : Lived) → jobs ≡ posts first s.clock s.name (places s.doors n) → Came true jobs outs → IsOneOf y (join_all rest outs).seen → y ≡ x
  unchanged jobs y e c m =
      one_undone first s.clock s.name x seen (places s.doors n) rest (λ z k. one_single x z k.0 (subst (λ (l : List Lived). get_elem? l k.0 ≡ some z) (rest_seen ∙ seen) k.1)) y
      (subst (λ (l : List Report). IsOneOf y (join_all rest l).seen) (c ∙ ap (map undone) e) m)

  pub finishes : (refused : Bool) (jobs : List Post) (failed : Bool) (keeper : Option KeeperState) (left : List Doorway) → jobs ≡ posts first s.clock s.name (places s.doors n) → Came refused jobs outs → any_failed outs ≡ failed
      → IsClosing (join_all rest outs).seen keeper → left ≡ doors_in outs → EndsSo (end_of refused failed) s keeper left
  finishes true jobs failed keeper left e c j h l =
      has_served keeper (λ a b. (b ≡ a) × (left ≡ s.doors)) h (λ y a m. (unchanged jobs y e c m, l ∙ ap doors_in (c ∙ ap (map undone) e) ∙ doors_undone first s.clock s.name s.doors n))
  finishes false jobs true keeper left e c j h l =
      let z : AllZip Does (posts first s.clock s.name (places s.doors n)) outs = subst (λ (i : List Post). AllZip Does i outs) e c in
      has_served keeper (λ a b. HaveFailed s a b left) h (λ y a m. record {
        stopped = subst (λ (k : List Doorway). AllZip (IsStopped s x y) s.doors k) (sym l) (all_stopped s first x y seen s.doors n outs rest z a);
        rose = subst (λ (k : List Doorway). OneRose s.doors k) (sym l) (one_rose s first x y seen s.doors n outs rest z a j);
      })
  finishes false jobs false keeper left e c j h l =
      let z : AllZip Does (posts first s.clock s.name (places s.doors n)) outs = subst (λ (i : List Post). AllZip Does i outs) e c in
      has_served keeper (λ a b. AllZip (IsClosed s a b) s.doors left) h (λ y a m.
      subst (λ (k : List Doorway). AllZip (IsClosed s x y) s.doors k) (sym l) (all_closed s first x y seen s.doors n outs rest z a j))

-- a database that was not opened
pub unopened : (s : Server) (fault : LoadFault) (keeper : KeeperState) → NamesBadRow (setting_with s.base) s.keeper.held fault → (fault ≡ load.Failed → Rose s.keeper.count keeper.count) → Loads s.keeper keeper
    → EndsSo (end_unopened fault) s (Some keeper) s.doors
unopened s load.Failed keeper bad rose loads = (loads, rose refl, refl)
unopened s (load.KeptBad etag) keeper bad rose loads = (loads, bad, refl)
unopened s load.NoMemory keeper bad rose loads = (loads, refl)

pub was_opened : (fault : LoadFault) → end_unopened fault ≡ NoThread → ⊥
was_opened load.Failed e = cc
was_opened (load.KeptBad etag) e = cc
was_opened load.NoMemory e = cc

pub was_refused : (refused failed : Bool) → end_of refused failed ≡ NoThread → refused ≡ true
was_refused true failed e = refl
was_refused false true e = absurd (let z : ⊥ = cc in z)
was_refused false false e = absurd (let z : ⊥ = cc in z)

pub was_begun : (refused failed : Bool) → end_of refused failed ≡ Done → refused ≡ false
was_begun false failed e = refl
was_begun true failed e = absurd (let z : ⊥ = cc in z)

-- the value with a front for each door
pub opens : (base name : List ℕ) (clock : Option ℕ) (before : KeeperState) (doors : List Doorway) (live x : Lived) (fronts : ℕ) → x ≡ lived live.world live.keeper fronts → fronts ≡ length doors
    → Opens (setting_with base) before.held (machine_in live) → Loads before live.keeper → IsOpening (server base name clock before doors) x
opens base name clock before doors live x fronts e f o l =
    subst (λ (y : Lived). IsOpening (server base name clock before doors) y) (sym e) (record { opens = o; loads = l; fronts = f })
