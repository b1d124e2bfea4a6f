-- Changes that are made one after another.
use Rattle.std.proofs.Common.{◌≡◌, ◌≢◌, ℕ, ◌≤◌, List, [], ◌∷◌, Bool, true, false, refl, sym, ap, ◌∙◌, subst, arith, inl, inr}
use Rattle.spec_data.specs.Rows.{Row}
use Rattle.spec_index.specs.World.{World}
use Rattle.spec_server.specs.Requests.{Auto, Ask, Bulk, Define, Delete, Do, Find, Get, Indexes, IsFromClient, Mask, Multi, Pump, Put, Remove, Request, Stale, Stats, Switch, Tidy, Clean}
use Rattle.spec_server.specs.Courses.{Change, Replied, is_taken, made}
use Rattle.spec_server.specs.Machine.{course_of, machine_of}
use Rattle.spec_server.specs.Replies.{KeeperFault, Reply}
use Rattle.spec_server.specs.Sound.{Has, LaterW, Sound}
use Rattle.spec_server.specs.WellFormed.{IsWellFormed}
use Rattle.raven_laws.specs.Keeping.{AreTheirRows}
use Rattle.raven_laws.proofs.KeepLemmas.{changes-rows}
use Rattle.raven_laws.proofs.MachineLemmas.{changes-Move}
use Rattle.raven_ports.specs.Asking.{Asked, AskedOnce}
use Rattle.raven_ports.specs.States.{KeeperState}
use Rattle.spec_desk.specs.Keepers.{IsKept, Keeps, task, tasks_of}
use Rattle.spec_desk.specs.Lived.{Follows, Lived, machine_in}
use Rattle.spec_desk.specs.Stepped.{All, IsMadeInPart, IsStep, Makes, MakesOne, MayMake, Settles, Stays, Stopped}
use Rattle.spec_desk.proofs.Later.{Follows-itself}
use Rattle.spec_desk.proofs.Parts.{part_failed, part_more, part_none}

-- ONE CHANGE MORE, IN FRONT

makes_none : (before : ℕ) (due : Reply) (x : Lived) → Makes before [] due x due x
makes_none before due x = record { takes = []; asked = (refl, refl); made_is = λ all. refl; fronts = refl }

makes_taken : (before : ℕ) (c : Change) (more : List Change) (due : Reply) (x z y : Lived) (reply : Reply) → IsKept x.keeper z.keeper c.rows c.cleans true → z.world ≡ c.world → z.fronts ≡ x.fronts
    → Makes before more due z reply y → Makes before (c ∷ more) due x reply y
makes_taken before c more due x z y reply k w f m = by c.rows k.takes k.asked k.taken_is
  where
    left : (all : List Bool) → record { reply = reply; machine = machine_in y } ≡ made (record { takes = all; before = before; after = y.keeper.count }) (machine_of c.world) m.takes more due
    left all = m.made_is all ∙ ap (λ (V : World). made (record { takes = all; before = before; after = y.keeper.count }) (machine_of V) m.takes more due) w

    by : (rows : List Row) (ts : List Bool) → Asked x.keeper z.keeper ts (task rows c.cleans ∷ []) → is_taken ts rows ≡ true → Makes before (record { rows = rows; cleans = c.cleans; world = c.world } ∷ more) due x reply y
    by [] ts asked is = record {
      takes = m.takes;
      asked = subst (λ (s : KeeperState). Asked s y.keeper m.takes (tasks_of more)) asked.1 m.asked;
      made_is = left;
      fronts = m.fronts ∙ f;
    }
    by (r ∷ rows) [] asked is = absurd asked
    by (r ∷ rows) (true ∷ ts) asked is = record {
      takes = true ∷ m.takes;
      asked = (z.keeper, subst (λ (s : KeeperState). AskedOnce x.keeper s true (r ∷ rows) c.cleans) (sym asked.2.1) asked.1, m.asked);
      made_is = left;
      fronts = m.fronts ∙ f;
    }
    by (r ∷ rows) (false ∷ ts) asked is = absurd cc

makes_failed : (before : ℕ) (c : Change) (more : List Change) (due : Reply) (x y : Lived) → IsKept x.keeper y.keeper c.rows c.cleans false → y.world ≡ x.world → y.fronts ≡ x.fronts
    → Makes before (c ∷ more) due x (KeeperFault before y.keeper.count) y
makes_failed before c more due x y k w f = by c.rows k.takes k.asked k.taken_is
  where
    by : (rows : List Row) (ts : List Bool) → Asked x.keeper y.keeper ts (task rows c.cleans ∷ []) → is_taken ts rows ≡ false
        → Makes before (record { rows = rows; cleans = c.cleans; world = c.world } ∷ more) due x (KeeperFault before y.keeper.count) y
    by [] ts asked is = absurd cc
    by (r ∷ rows) [] asked is = absurd asked
    by (r ∷ rows) (true ∷ ts) asked is = absurd cc
    by (r ∷ rows) (false ∷ ts) asked is = record {
      takes = false ∷ [];
      asked = (refl, asked.1);
      made_is = λ all. ap (λ (V : World). (let s : Replied = record { reply = KeeperFault before y.keeper.count; machine = machine_of V } in s)) w;
      fronts = f;
    }

-- THE STEP

-- what settles the course of a request is its step
pub stepped : (now : ℕ) (q : Request) (x : Lived) (reply : Reply) (y : Lived) → (let c = course_of x.world now q in Makes x.keeper.count c.changes c.reply x reply y) → IsStep now q x reply y
stepped now q x reply y m = record {
  takes = m.takes;
  asked = m.asked;
  reply_is = ap (λ (r : Replied). r.reply) (m.made_is m.takes);
  machine = ap (λ (r : Replied). r.machine) (m.made_is m.takes);
  fronts = m.fronts;
}

-- a client may send what is well formed
pub from_client : (request : Request) → IsWellFormed (Do request) → IsFromClient (Do request)
from_client (Put id expected body) h = tt
from_client (Delete id expected) h = tt
from_client (Bulk commands) h = tt
from_client (Get id) h = tt
from_client (Define name definition) h = h
from_client (Multi parts) h = h
from_client (Remove name) h = tt
from_client (Auto collection field) h = tt
from_client (Find index field words) h = tt
from_client (Ask ask) h = tt
from_client (Mask ask) h = tt
from_client (Pump max index) h = tt
from_client (Switch name) h = tt
from_client Tidy h = tt
from_client Clean h = tt
from_client (Stale name cutoff) h = tt
from_client Indexes h = tt
from_client Stats h = tt

-- the changes of a course may be made
pub may_make : (now : ℕ) (q : Request) (x : Lived) → Keeps x.keeper.held (machine_in x) → IsWellFormed (Do q) → MayMake x (course_of x.world now q).changes
may_make now q x k formed = record {
  rows = changes-rows x.world now (Do q);
  sound = λ c has. (changes-Move x.world now (Do q) c k.sound.world (from_client q formed) has).sound;
  later = λ c has. (changes-Move x.world now (Do q) c k.sound.world (from_client q formed) has).later;
}

-- WHILE THE CHANGES OF A COURSE ARE MADE

-- of all changes that were to be made on x, these are left on `here`
pub record Going (x : Lived) (all left : List Change) (here : Lived) : Type 0 where
  pub leads : (due reply : Reply) (y : Lived) → Makes x.keeper.count left due here reply y → Makes x.keeper.count all due x reply y
  pub parts : (y : Lived) → IsMadeInPart left here y → IsMadeInPart all x y
  pub rows : AreTheirRows here.world.store left
  pub sound : (c : Change) → Has left c → Sound c.world
  pub later : (c : Change) → Has left c → LaterW x.world c.world
  pub follows : Follows x here
  pub fronts : here.fronts ≡ x.fronts

pub begins : (x : Lived) (all : List Change) → MayMake x all → Going x all all x
begins x all may = record {
  leads = λ due reply y m. m;
  parts = λ y m. m;
  rows = may.rows;
  sound = may.sound;
  later = may.later;
  follows = Follows-itself x;
  fronts = refl;
}

pub goes_on : (x : Lived) (all : List Change) (c : Change) (more : List Change) (here z : Lived) → Going x all (c ∷ more) here → MakesOne here c true z
    → here.keeper.count ≤ z.keeper.count → Going x all more z
goes_on x all c more here z g m n = record {
  leads = λ due reply y k. g.leads due reply y (makes_taken x.keeper.count c more due here z y reply m.kept m.world m.fronts k);
  parts = λ y k. g.parts y (part_more c more here z y m.kept m.world k);
  rows = subst (λ (V : World). AreTheirRows V.store more) (sym m.world) g.rows.1;
  sound = λ d has. g.sound d (inr has);
  later = λ d has. g.later d (inr has);
  follows = record {
    world = subst (λ (V : World). LaterW x.world V) (sym m.world) (g.later c (inl refl));
    fronts = let a = g.follows.fronts in let b = m.fronts in omega arith;
    faults = let a = g.follows.faults in omega arith;
  };
  fronts = m.fronts ∙ g.fronts;
}

pub ends : (x : Lived) (all : List Change) (here : Lived) → Going x all [] here → Settles all x All here
ends x all here g = λ due. g.leads due due here (makes_none x.keeper.count due here)

pub stops : (x : Lived) (all : List Change) (c : Change) (more : List Change) (here y : Lived) → Going x all (c ∷ more) here → MakesOne here c false y
    → Settles all x (Stopped x.keeper.count y.keeper.count) y
stops x all c more here y g m =
    λ due. g.leads due (KeeperFault x.keeper.count y.keeper.count) y (makes_failed x.keeper.count c more due here y m.kept m.world m.fronts)

-- so only a part was made, if the keeper did not take the rows of the next change
pub stops_part : (x : Lived) (all : List Change) (c : Change) (more : List Change) (here y : Lived) → Going x all (c ∷ more) here → MakesOne here c false y → IsMadeInPart all x y
stops_part x all c more here y g m = g.parts y (part_failed c more here y m)

-- or if memory ran out there
pub lacks_part : (x : Lived) (all : List Change) (c : Change) (more : List Change) (here y : Lived) → Going x all (c ∷ more) here → c.rows ≢ [] → Stays here y → IsMadeInPart all x y
lacks_part x all c more here y g some s = g.parts y (part_none c more here y some s)
