-- Making the changes of a course on a live value.
use Rattle.std.proofs.Common.{◌≡◌, ℕ, List, [], ◌∷◌, true, Result, Ok, Err, IfOk, OnErr, IfNone, IfSome, Option, None, Some, length, refl, sym, ap, ◌∙◌, subst, arith}
use Rattle.spec_data.specs.Kept.{EtagsRise, all_kept, last_kept}
use Rattle.spec_index.specs.World.{World}
use Rattle.spec_server.specs.Requests.{Do, Request}
use Rattle.spec_server.specs.Courses.{Change, Course}
use Rattle.spec_server.specs.Machine.{course_of, machine_of}
use Rattle.spec_server.specs.Replies.{Reply}
use Rattle.spec_server.specs.Sound.{Sound}
use Rattle.spec_server.specs.WellFormed.{IsWellFormed}
use Rattle.raven_laws.specs.Keeping.{IsDone, IsItsRows}
use Rattle.raven_ports.specs.States.{KeeperState}
use Rattle.spec_desk.specs.Keepers.{IsKept, Keeps}
use Rattle.spec_desk.specs.Lived.{Lived, lived}
use Rattle.spec_desk.specs.Stepped.{IsStep, Makes, MayMake, Settles, Stopped}
use Rattle.spec_desk.proofs.Keeping.{keeps_taken, past, rising}
use Rattle.spec_desk.proofs.Making.{may_make, stepped}

-- ONE CHANGE

-- The fields of a live value show it: so what is known of the value is known of them.
own_rows : (W : World) (k : KeeperState) (fronts : ℕ) (x : Lived) (c : Change) → lived W k fronts ≡ x → IsItsRows x.world.store c → IsItsRows W.store c
own_rows W k fronts x c e own = subst (λ (z : Lived). IsItsRows z.world.store c) (sym e) own

-- the rows that it is to store go on after those that it holds
pub rises : (x : Lived) (c : Change) → IsItsRows x.world.store c → IfNone c.cleans (EtagsRise None (all_kept c.rows))
rises x c own = by c.cleans own
  where
    by : (cleans : Option ℕ) → IsDone x.world.store c cleans → IfNone cleans (EtagsRise None (all_kept c.rows))
    by None own = rising x.world.store c.rows own.next
    by (Some upto) own = tt

pub is_past : (W : World) (k : KeeperState) (fronts : ℕ) (x : Lived) (c : Change) → lived W k fronts ≡ x → Keeps k.held (machine_of W) → IsItsRows x.world.store c
    → IfNone c.cleans (IfSome k.held (λ all. EtagsRise (last_kept None all) (all_kept c.rows)))
is_past W k fronts x c e keeps own = by c.cleans (own_rows W k fronts x c e own)
  where
    by : (cleans : Option ℕ) → IsDone W.store c cleans → IfNone cleans (IfSome k.held (λ all. EtagsRise (last_kept None all) (all_kept c.rows)))
    by None own = past k.held W c.rows keeps own.next
    by (Some upto) own = tt

pub keeps_change : (W : World) (k l : KeeperState) (fronts : ℕ) (x : Lived) (c : Change) (N : World) → lived W k fronts ≡ x → Keeps k.held (machine_of W) → IsItsRows x.world.store c → Sound c.world
    → IsKept k l c.rows c.cleans true → N ≡ c.world → Keeps l.held (machine_of N)
keeps_change W k l fronts x c N e keeps own sound kept is =
    subst (λ (V : World). Keeps l.held (machine_of V)) (sym is) (keeps_taken k l W c keeps (own_rows W k fronts x c e own) sound kept)

-- A COURSE

pub nothing_left : {X : Type 0} (xs : List X) → length xs ≡ 0 → xs ≡ []
nothing_left [] h = refl
nothing_left (x ∷ xs) h = absurd (omega arith)

pub on_err : {T E : Type 0} (r : Result T E) (P : Type 0) → P → OnErr r P
on_err (Ok t) P p = tt
on_err (Err e) P p = p

pub if_err : {T E : Type 0} (r : Result T E) (P Q : Type 0) → (P → Q) → OnErr r P → OnErr r Q
if_err (Ok t) P Q f h = tt
if_err (Err e) P Q f h = f h

-- the counts that were read are those of the keeper
pub stopped_as : (changes : List Change) (x y : Lived) (before after : ℕ) → before ≡ x.keeper.count → after ≡ y.keeper.count → Settles changes x (Stopped x.keeper.count y.keeper.count) y
    → Settles changes x (Stopped before after) y
stopped_as changes x y before after b a s =
    subst (λ (n : ℕ). Settles changes x (Stopped n after) y) (sym b) (subst (λ (n : ℕ). Settles changes x (Stopped x.keeper.count n) y) (sym a) s)

-- the course of a request, if its world is that of x
pub course_at : {T E : Type 0} (view : T → Course) (r : Result T E) (now : ℕ) (q : Request) (W : World) (x : Lived) → W ≡ x.world → IfOk r (λ c. view c ≡ course_of W now q)
    → IfOk r (λ c. view c ≡ course_of x.world now q)
course_at view (Err e) now q W x at is = tt
course_at view (Ok c) now q W x at is = is ∙ ap (λ (V : World). course_of V now q) at

-- its changes may be made
pub may_make_in : {T E : Type 0} (view : T → Course) (r : Result T E) (now : ℕ) (q : Request) (W : World) (k : KeeperState) (fronts : ℕ) (V : World) (x : Lived) → lived W k fronts ≡ x → V ≡ W
    → Keeps k.held (machine_of W) → IsWellFormed (Do q) → IfOk r (λ c. view c ≡ course_of V now q) → IfOk r (λ c. MayMake x (view c).changes)
may_make_in view (Err f) now q W k fronts V x e at keeps formed is = tt
may_make_in view (Ok c) now q W k fronts V x e at keeps formed is =
    let same : view c ≡ course_of W now q = is ∙ ap (λ (U : World). course_of U now q) at in
    subst (λ (z : Lived). MayMake z (view c).changes) e (subst (λ (d : Course). MayMake (lived W k fronts) d.changes) (sym same) (may_make now q (lived W k fronts) keeps formed))

-- and then it is the step of the request
pub steps_as : {T E : Type 0} (view : T → Reply) (r : Result T E) (now : ℕ) (q : Request) (o : Course) (x y : Lived) → o ≡ course_of x.world now q
    → IfOk r (λ reply. Makes x.keeper.count o.changes o.reply x (view reply) y) → IfOk r (λ reply. IsStep now q x (view reply) y)
steps_as view (Err e) now q o x y is m = tt
steps_as view (Ok t) now q o x y is m = stepped now q x (view t) y (subst (λ (c : Course). Makes x.keeper.count c.changes c.reply x (view t) y) is m)
