-- Courses that were made in part.
use Rattle.std.proofs.Common.{◌≡◌, ◌≢◌, ℕ, ◌≤◌, List, [], ◌∷◌, ◌++◌, Bool, true, false, Option, Result, Ok, Err, Some, None, length, map, refl, sym, ap, ◌∙◌, subst, arith, length-append, nat_lt, cond, inl, inr}
use Rattle.spec_data.specs.Kept.{KeptRow}
use Rattle.spec_data.specs.Rows.{Row}
use Rattle.spec_index.specs.World.{Slot, Version, World, numbered, with_version}
use Rattle.spec_server.specs.Requests.{Do, Keeping, Publish, Request}
use Rattle.spec_server.specs.Courses.{Change, Held, Machine, Replied, is_taken, made, settled, with_slots, with_world}
use Rattle.spec_server.specs.Workers.{Passed, Cleaned, PublishRefusal, put_in, was_cleaned, held_by, let_go, publish_by, publish_to, published, published_in, published_reply}
use Rattle.spec_server.specs.Machine.{course_of, machine_of, step}
use Rattle.spec_server.specs.Replies.{KeeperFault, Reply}
use Rattle.spec_server.specs.Sound.{IsHeld, LaterW, Sound}
use Rattle.raven_laws.proofs.MachineLemmas.{published-Moves}
use Rattle.raven_ports.specs.Asking.{Asked, AskedOnce}
use Rattle.raven_ports.specs.States.{KeeperState}
use Rattle.spec_desk.specs.Keepers.{IsKept, task, tasks_of}
use Rattle.spec_desk.specs.Lived.{Lived}
use Rattle.spec_desk.specs.Publishing.{publication, publishes}
use Rattle.spec_desk.specs.Stepped.{IsMadeInPart, MadeInPart, MakesOne, MayMake, Stays, world_after}
use Rattle.spec_desk.proofs.Keeping.{failed_held}

-- MADE IN PART

-- nothing was made
pub part_none : (c : Change) (more : List Change) (x y : Lived) → c.rows ≢ [] → Stays x y → IsMadeInPart (c ∷ more) x y
part_none c more x y some s = record {
  done = [];
  next = c;
  left = more;
  split = refl;
  has_rows = some;
  takes = [];
  reached = x.keeper;
  asked = (refl, refl);
  taken = tt;
  world = s.0;
  holds = s.1;
}

-- one change more, in front
pub part_more : (c : Change) (more : List Change) (x z y : Lived) → IsKept x.keeper z.keeper c.rows c.cleans true → z.world ≡ c.world → IsMadeInPart more z y → IsMadeInPart (c ∷ more) x y
part_more c more x z y k w m = by c.rows k.takes k.asked k.taken_is
  where
    by : (rows : List Row) (ts : List Bool) → Asked x.keeper z.keeper ts (task rows c.cleans ∷ []) → is_taken ts rows ≡ true → IsMadeInPart (record { rows = rows; cleans = c.cleans; world = c.world } ∷ more) x y
    by [] ts asked is = record {
      done = record { rows = []; cleans = c.cleans; world = c.world } ∷ m.done;
      next = m.next;
      left = m.left;
      split = ap (λ (l : List Change). record { rows = []; cleans = c.cleans; world = c.world } ∷ l) m.split;
      has_rows = m.has_rows;
      takes = m.takes;
      reached = m.reached;
      asked = subst (λ (s : KeeperState). Asked s m.reached m.takes (tasks_of m.done)) asked.1 m.asked;
      taken = (refl, m.taken);
      world = m.world ∙ ap (λ (V : World). world_after V m.done) w;
      holds = m.holds;
    }
    by (r ∷ rows) [] asked is = absurd asked
    by (r ∷ rows) (true ∷ ts) asked is = record {
      done = record { rows = r ∷ rows; cleans = c.cleans; world = c.world } ∷ m.done;
      next = m.next;
      left = m.left;
      split = ap (λ (l : List Change). record { rows = r ∷ rows; cleans = c.cleans; world = c.world } ∷ l) m.split;
      has_rows = m.has_rows;
      takes = true ∷ m.takes;
      reached = m.reached;
      asked = (z.keeper, subst (λ (s : KeeperState). AskedOnce x.keeper s true (r ∷ rows) c.cleans) (sym asked.2.1) asked.1, m.asked);
      taken = (refl, m.taken);
      world = m.world ∙ ap (λ (V : World). world_after V m.done) w;
      holds = m.holds;
    }
    by (r ∷ rows) (false ∷ ts) asked is = absurd cc

-- a change that was not taken has rows
pub has_rows : (before after : KeeperState) (rows : List Row) (cleans : Option ℕ) → IsKept before after rows cleans false → rows ≢ []
has_rows before after [] cleans k = absurd (let is = k.taken_is in cc)
has_rows before after (r ∷ rows) cleans k = λ e. cc

-- the first change was not taken
pub part_failed : (c : Change) (more : List Change) (x y : Lived) → MakesOne x c false y → IsMadeInPart (c ∷ more) x y
part_failed c more x y m = part_none c more x y (has_rows x.keeper y.keeper c.rows c.cleans m.kept) (m.world, failed_held x.keeper y.keeper c.rows c.cleans m.kept)

-- of one change at most nothing was made
pub alone : (changes : List Change) (x y : Lived) → length changes ≤ 1 → IsMadeInPart changes x y → Stays x y
alone changes x y few m = by m.done m.split m.asked m.world
  where
    by : (done : List Change) → changes ≡ done ++ m.next ∷ m.left → Asked x.keeper m.reached m.takes (tasks_of done) → y.world ≡ world_after x.world done → Stays x y
    by [] e asked w = (w, m.holds ∙ ap (λ (k : KeeperState). k.held) asked.1)
    by (d ∷ done) e asked w = absurd (let n = ap length e ∙ length-append (d ∷ done) (m.next ∷ m.left) in omega arith)

-- AS IF THE KEEPER HAD NOT TAKEN THE ROWS OF THE NEXT CHANGE

abbrev takes_of : List Row → List Bool → List Bool
takes_of [] takes = takes
takes_of (r ∷ rows) takes = true ∷ takes

abbrev cut_after : List Change → List Bool
cut_after [] = false ∷ []
cut_after (c ∷ more) = takes_of c.rows (cut_after more)

made_cut : (k : Keeping) (M : Machine) (done : List Change) (next : Change) (left : List Change) (due : Reply) → next.rows ≢ []
    → made k M (cut_after done) (done ++ next ∷ left) due ≡ record { reply = KeeperFault k.before k.after; machine = with_world M (world_after M.world done) }
made_cut k M [] next left due some = by next.rows some
  where
    by : (rows : List Row) → rows ≢ []
        → made k M (false ∷ []) (record { rows = rows; cleans = next.cleans; world = next.world } ∷ left) due ≡ record { reply = KeeperFault k.before k.after; machine = M }
    by [] none = absurd (none refl)
    by (r ∷ rows) h = refl
made_cut k M (c ∷ done) next left due some = by c.rows (made_cut k (with_world M c.world) done next left due some)
  where
    by : (rows : List Row) → made k (with_world M c.world) (cut_after done) (done ++ next ∷ left) due
        ≡ record { reply = KeeperFault k.before k.after; machine = with_world M (world_after c.world done) }
        → made k M (takes_of rows (cut_after done)) (record { rows = rows; cleans = c.cleans; world = c.world } ∷ (done ++ next ∷ left)) due
        ≡ record { reply = KeeperFault k.before k.after; machine = with_world M (world_after c.world done) }
    by [] rest = rest
    by (r ∷ rows) rest = rest

-- what the keeper takes then
abbrev pub cut_takes : (changes : List Change) (W : World) (keeper : KeeperState) (V : World) (held : Option (List KeptRow)) → MadeInPart changes W keeper V held → List Bool
cut_takes changes W keeper V held m = cut_after m.done

pub cut_step : (M : Machine) (now before after : ℕ) (q : Request) (keeper : KeeperState) (V : World) (held : Option (List KeptRow)) (m : MadeInPart (course_of M.world now q).changes M.world keeper V held)
    → step M (record { takes = cut_takes (course_of M.world now q).changes M.world keeper V held m; before = before; after = after }) now (Do q) ≡ record { reply = KeeperFault before after; machine = with_world M V }
cut_step M now before after q keeper V held m =
    let k : Keeping = record { takes = cut_after m.done; before = before; after = after } in
    let due = (course_of M.world now q).reply in
    ap (λ (changes : List Change). made k M (cut_after m.done) changes due) m.split ∙ made_cut k M m.done m.next m.left due m.has_rows
    ∙ ap (λ (W : World). (let s : Replied = record { reply = KeeperFault before after; machine = with_world M W } in s)) (sym m.world)

-- WHAT WORKERS HOLD

abbrev pub holding : List Held → Replied → Replied
holding held r = record { reply = r.reply; machine = record { world = r.machine.world; held = held } }

-- it stays, whatever changes are made
pub made_held : (k : Keeping) (W : World) (held : List Held) (takes : List Bool) (changes : List Change) (due : Reply)
    → made k (record { world = W; held = held }) takes changes due ≡ holding held (made k (machine_of W) takes changes due)
made_held k W held takes [] due = refl
made_held k W held takes (c ∷ more) due = by c.rows takes (λ ts. made_held k c.world held ts more due)
  where
    by : (rows : List Row) (ts : List Bool) → ((us : List Bool) → made k (record { world = c.world; held = held }) us more due ≡ holding held (made k (machine_of c.world) us more due))
        → made k (record { world = W; held = held }) ts (record { rows = rows; cleans = c.cleans; world = c.world } ∷ more) due
        ≡ holding held (made k (machine_of W) ts (record { rows = rows; cleans = c.cleans; world = c.world } ∷ more) due)
    by [] ts rest = rest ts
    by (r ∷ rows) [] rest = rest []
    by (r ∷ rows) (true ∷ ts) rest = rest ts
    by (r ∷ rows) (false ∷ ts) rest = refl

-- PUBLISHING

publishes-step : (M : Machine) (k : Keeping) (worker : ℕ) (reply : Reply) (o : Result World PublishRefusal) → publish_to M worker reply o ≡ settled (let_go M worker) k (publishes reply o)
publishes-step M k worker reply (Err refusal) = refl
publishes-step M k worker reply (Ok W) = refl

pub publish_step : (M : Machine) (k : Keeping) (now worker : ℕ) (h : Held) → held_by M.held worker ≡ Some h
    → step M k now (Publish worker) ≡ settled (let_go M worker) k (publication M.world h.number h.version)
publish_step M k now worker h e =
    ap (publish_by M worker) e ∙ publishes-step M k worker (published_reply h.version (numbered M.world.slots h.number)) (published M.world h.number h.version)

same_store : (W : World) (n : ℕ) (v : Version) (there : Option Slot) (V : World) → published_in W n v there ≡ Ok V → V.store ≡ W.store
same_store W n v None V h = absurd cc
same_store W n v (Some s) V h = elim (nat_lt s.version.etag v.etag) as (λ b. cond b (put_in W n v) (Err (Passed s.version.etag)) ≡ Ok V → V.store ≡ W.store) [
  | true ↦ λ e. elim (was_cleaned W.store v) as (λ c. cond c (Err (Cleaned W.store.cleaned)) (Ok (with_slots W (map (with_version n v) W.slots))) ≡ Ok V → V.store ≡ W.store) [
    | true ↦ λ f. absurd cc
    | false ↦ λ f. sym (ap (λ (X : World). X.store) (same (with_slots W (map (with_version n v) W.slots)) V f))
  ] e
  | false ↦ λ e. absurd cc
] h
  where
    same : (A B : World) → (let r : Result World PublishRefusal = Ok A in r) ≡ Ok B → A ≡ B
    same A B e = cc

-- the change may be made
pub publish_may : (x : Lived) (h : Held) → Sound x.world → IsHeld x.world h → MayMake x (publication x.world h.number h.version).changes
publish_may x h o held = by (published x.world h.number h.version) refl
  where
    by : (r : Result World PublishRefusal) → published x.world h.number h.version ≡ r
        → MayMake x (publishes (published_reply h.version (numbered x.world.slots h.number)) r).changes
    by (Err refusal) e = record { rows = tt; sound = λ c has. absurd has; later = λ c has. absurd has }
    by (Ok V) e =
        let moves = published-Moves x.world h o held V e in
        record {
          rows = (record { store = same_store x.world h.number h.version (numbered x.world.slots h.number) V e; next = tt }, tt);
          sound = λ c has. elim has [ inl is ↦ subst (λ (c : Change). Sound c.world) is moves.sound | inr no_more ↦ absurd no_more ];
          later = λ c has. elim has [ inl is ↦ subst (λ (c : Change). LaterW x.world c.world) is moves.later | inr no_more ↦ absurd no_more ];
        }
