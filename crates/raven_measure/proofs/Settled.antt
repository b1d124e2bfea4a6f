-- What is left of a request once its changes were settled.
use Rattle.std.proofs.Common.{◌≡◌, ℕ, ◌+◌, ◌≤◌, List, [], ◌∷◌, Bool, true, false, Option, length, refl, sym, ap, ◌∙◌, subst, arith}
use Rattle.std.specs.Int.{from_bool}
use Rattle.spec_data.specs.Rows.{Row}
use Rattle.spec_measure.specs.Summary.{is_moving, one_if}
use Rattle.spec_server.specs.Requests.{Keeping, Request, takes_all}
use Rattle.spec_server.specs.Courses.{Change, Course, Machine, Replied, made, with_world}
use Rattle.spec_server.specs.Machine.{course_of}
use Rattle.spec_server.specs.Replies.{KeeperFault, Reply, UnknownLine}
use Rattle.raven_ports.specs.Asking.{Asked, Task}
use Rattle.raven_ports.specs.Faults.{Rose}
use Rattle.raven_ports.specs.States.{KeeperState}
use Rattle.raven_laws.proofs.Acts.{one-at-most}
use Rattle.spec_desk.proofs.Parts.{alone}
use Rattle.spec_desk.specs.Keepers.{MayGive, task, tasks_of}
use Rattle.spec_desk.specs.Lived.{Follows, Lived, machine_in}
use Rattle.spec_desk.specs.Stepped.{All, IsMadeInPart, Settles, Stays, Stopped}
use Rattle.raven_measure.specs.Defining.{MayBeMade}
use Rattle.raven_measure.specs.Doing.{Does, IsNotTaken}

-- it makes one change at most: so of one that was made in part nothing was made
pub not_made : (x y : Lived) (now : ℕ) (request : Request) (c : Course) → MayBeMade request → c ≡ course_of x.world now request → IsMadeInPart c.changes x y → Stays x y
not_made x y now request c may e part =
    alone c.changes x y (subst (λ (d : Course). length d.changes ≤ 1) (sym e) (one-at-most x.world now request may.1)) part

-- ALL WERE MADE

-- whatever the keeper does, if the reply is not one for its fault, the machine is that of a keeper that takes all
made_all : (k : Keeping) (M : Machine) (takes : List Bool) (changes : List Change) (reply : Reply) → (made k M takes changes UnknownLine).reply ≡ UnknownLine
    → (made k M takes changes UnknownLine).machine ≡ (made takes_all M [] changes reply).machine
made_all k M takes [] reply h = refl
made_all k M takes (c ∷ more) reply h = by c.rows takes h (λ ts g. made_all k (with_world M c.world) ts more reply g)
  where
    by : (rows : List Row) (ts : List Bool) → (made k M ts (record { rows = rows; cleans = c.cleans; world = c.world } ∷ more) UnknownLine).reply ≡ UnknownLine
        → ((us : List Bool) → (made k (with_world M c.world) us more UnknownLine).reply ≡ UnknownLine
        → (made k (with_world M c.world) us more UnknownLine).machine ≡ (made takes_all (with_world M c.world) [] more reply).machine)
        → (made k M ts (record { rows = rows; cleans = c.cleans; world = c.world } ∷ more) UnknownLine).machine ≡ (made takes_all M [] (record { rows = rows; cleans = c.cleans; world = c.world } ∷ more) reply).machine
    by [] ts g rest = rest ts g
    by (r ∷ rows) [] g rest = rest [] g
    by (r ∷ rows) (true ∷ ts) g rest = rest ts g
    by (r ∷ rows) (false ∷ ts) g rest = absurd cc

-- the counts of the keeper before and after
abbrev counts : Lived → Lived → Keeping
counts x y = record { takes = []; before = x.keeper.count; after = y.keeper.count }

all_left : (x y : Lived) (changes : List Change) (reply : Reply) → Settles changes x All y → machine_in y ≡ (made takes_all (machine_in x) [] changes reply).machine
all_left x y changes reply s =
    let m = s UnknownLine in
    let is = m.made_is [] in
    ap (λ (r : Replied). r.machine) is ∙ made_all (counts x y) (machine_in x) m.takes changes reply (sym (ap (λ (r : Replied). r.reply) is))

pub does_settled : (clock : Option ℕ) (x y : Lived) (n m now : ℕ) (request : Request) (c : Course) → MayGive clock now → c ≡ course_of x.world now request → Settles c.changes x All y → Follows x y
    → m ≡ n + one_if (is_moving c.reply) → Does clock (record { live = x; moved = n }) (request ∷ []) (record { live = y; moved = m })
does_settled clock x y n m now request c given e s f counted =
    let is = course_of x.world now request in
    let settled = subst (λ (d : Course). Settles d.changes x All y) e s in
    let moved = counted ∙ ap (λ (d : Course). n + one_if (is_moving d.reply)) e in
    record {
      timed = record { request = request; now = now } ∷ [];
      asked = refl;
      moments = (given, tt);
      made = (y, settled, refl);
      left = all_left x y is.changes is.reply settled;
      moved = omega (arith, moved);
      later = f;
    }

pub as_one : (b : Bool) → from_bool b ≡ one_if b
as_one true = refl
as_one false = refl

-- THE KEEPER FAILED

pub rose_later : (before between after : ℕ) → before ≤ between → Rose between after → Rose before after
rose_later before between after h r = omega (arith, h, r)

made_stops : (k : Keeping) (before after : KeeperState) (M : Machine) (takes : List Bool) (changes : List Change) (a b : ℕ) → Asked before after takes (tasks_of changes)
    → (made k M takes changes UnknownLine).reply ≡ KeeperFault a b → Rose before.count after.count
made_stops k before after M takes [] a b asked h = absurd cc
made_stops k before after M takes (c ∷ more) a b asked h =
    by c.rows takes asked h (λ between ts t g. made_stops k between after (with_world M c.world) ts more a b t g)
  where
    later : List Task
    later = tasks_of more

    by : (rows : List Row) (ts : List Bool) → Asked before after ts (task rows c.cleans ∷ later) → (made k M ts (record { rows = rows; cleans = c.cleans; world = c.world } ∷ more) UnknownLine).reply ≡ KeeperFault a b
        → ((between : KeeperState) (us : List Bool) → Asked between after us later → (made k (with_world M c.world) us more UnknownLine).reply ≡ KeeperFault a b → Rose between.count after.count)
        → Rose before.count after.count
    by [] ts t g rest = rest before ts t g
    by (r ∷ rows) [] t g rest = absurd t
    by (r ∷ rows) (true ∷ ts) t g rest = rose_later before.count t.0.count after.count t.1.later (rest t.0 ts t.2 g)
    by (r ∷ rows) (false ∷ ts) t g rest = (t.1.failed refl).1

stopped_rose : (x y : Lived) (changes : List Change) (a b : ℕ) → Settles changes x (Stopped a b) y → Rose x.keeper.count y.keeper.count
stopped_rose x y changes a b s =
    let m = s UnknownLine in
    made_stops (counts x y) x.keeper y.keeper (machine_in x) m.takes changes a b m.asked (sym (ap (λ (r : Replied). r.reply) (m.made_is [])))

pub not_taken : (clock : Option ℕ) (x y : Lived) (now : ℕ) (request : Request) (c : Course) (a b : ℕ) → MayGive clock now → c ≡ course_of x.world now request → Settles c.changes x (Stopped a b) y
    → IsNotTaken clock request x y
not_taken clock x y now request c a b given e s =
    record { now = now; given = given; faults = (a, b); settled = subst (λ (d : Course). Settles d.changes x (Stopped a b) y) e s }

-- and its count of faults rose
pub has_failed : (clock : Option ℕ) (x y : Lived) (request : Request) → IsNotTaken clock request x y → Rose x.keeper.count y.keeper.count
has_failed clock x y request n = stopped_rose x y (course_of x.world n.now request).changes n.faults.0 n.faults.1 n.settled
