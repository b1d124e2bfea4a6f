-- What READ and PUBLISH do.
use Rattle.std.proofs.Common.{◌≡◌, ℕ, ◌==◌, List, [], ◌∷◌, ◌++◌, Bool, true, false, cond, not, find, filter, Option, Some, None, Result, Ok, Err, inl, inr, ◌⊎◌, refl, sym, ap, ◌∙◌, subst, arith}
use Rattle.std.specs.Prelude.{option_map}
use Rattle.index_version.specs.Named.{NamedVersion}
use Rattle.raven_ports.specs.Asking.{Asked}
use Rattle.raven_ports.specs.States.{KeeperState}
use Rattle.raven_world.specs.Publishing.{IsReadAt}
use Rattle.raven_world.specs.declared.publish.Batch.{Batch}
use Rattle.spec_index.specs.World.{Slot, World, batch, numbered, serving}
use Rattle.spec_server.specs.Requests.{Keeping, Publish, Read}
use Rattle.spec_server.specs.Courses.{Change, Course, Held, Machine, Replied, made, storing}
use Rattle.spec_server.specs.Workers.{PublishRefusal, held_by, publish_by, published, published_reply, read_at, read_batch}
use Rattle.spec_server.specs.Machine.{machine_of, step}
use Rattle.spec_server.specs.Replies as replies
use Rattle.spec_server.specs.Replies.{Reply, printed}
use Rattle.spec_desk.specs.Keepers.{keeping, tasks_of}
use Rattle.spec_desk.specs.Lived.{Lived, machine_in, machine_with}
use Rattle.spec_desk.specs.Publishing.{publication, publishes}
use Rattle.spec_desk.specs.Stepped.{IsMadeInPart, Stays}
use Rattle.spec_desk.proofs.Parts.{alone, holding, made_held, publish_step}
use Rattle.raven_run.specs.Answering.{IsHandled, IsSettled}
use Rattle.raven_run.specs.Holding.{NamedBatch, after_read, all_held, held_of, of_others, read_to}

abbrev machine : World → List NamedBatch → Machine
machine W batches = record { world = W; held = all_held batches }

-- AS THE MACHINE HAS IT

abbrev goes : ℕ → Held → Bool
goes worker h = not (h.worker == worker)

all_held-others : (worker : ℕ) (batches : List NamedBatch) → all_held (of_others worker batches) ≡ filter (goes worker) (all_held batches)
all_held-others worker [] = refl
all_held-others worker (b ∷ batches) = by (not (b.worker == worker)) (all_held-others worker batches)
  where
    by : (keep : Bool) → all_held (of_others worker batches) ≡ filter (goes worker) (all_held batches)
        → all_held (cond keep (b ∷ of_others worker batches) (of_others worker batches)) ≡ cond keep (held_of b ∷ filter (goes worker) (all_held batches)) (filter (goes worker) (all_held batches))
    by true e = ap (λ (l : List Held). held_of b ∷ l) e
    by false e = e

all_held-push : (batches : List NamedBatch) (b : NamedBatch) → all_held (batches ++ b ∷ []) ≡ all_held batches ++ held_of b ∷ []
all_held-push [] b = refl
all_held-push (x ∷ batches) b = ap (λ (l : List Held). held_of x ∷ l) (all_held-push batches b)

held_by-all : (worker : ℕ) (batches : List NamedBatch) → held_by (all_held batches) worker ≡ option_map held_of (find (λ (b : NamedBatch). b.worker == worker) batches)
held_by-all worker [] = refl
held_by-all worker (b ∷ batches) = by (b.worker == worker) (held_by-all worker batches)
  where
    by : (is : Bool) → held_by (all_held batches) worker ≡ option_map held_of (find (λ (x : NamedBatch). x.worker == worker) batches)
        → cond is (Some (held_of b)) (held_by (all_held batches) worker) ≡ option_map held_of (cond is (Some b) (find (λ (x : NamedBatch). x.worker == worker) batches))
    by true e = refl
    by false e = e

-- READING

abbrev replied : Reply → World → List Held → Replied
replied reply W held = record { reply = reply; machine = record { world = W; held = held } }

read-step : {A : Type 0} (value : A → NamedVersion) (read : Option A) (W : World) (batches : List NamedBatch) (worker max : ℕ) (index : List ℕ) (s : Slot) (number from : ℕ)
    → serving W.slots index ≡ Some s → number ≡ s.number → from ≡ s.version.etag → option_map (λ (a : A). (value a).version) read ≡ batch s.version W.store max
    → read_at (machine W batches) worker max index (serving W.slots index)
    ≡ replied (replies.Held from (read_to from (option_map value read))) W (all_held (after_read worker number (option_map value read) batches))
read-step value None W batches worker max index s number from serves n f v =
    ap (read_at (machine W batches) worker max index) serves ∙ ap (read_batch (machine W batches) worker s) (sym v)
    ∙ ap (λ (e : ℕ). replied (replies.Held e e) W (filter (goes worker) (all_held batches))) (sym f)
    ∙ ap (replied (replies.Held from from) W) (sym (all_held-others worker batches))
read-step value (Some a) W batches worker max index s number from serves n f v =
    let e = (value a).version.etag in
    ap (read_at (machine W batches) worker max index) serves ∙ ap (read_batch (machine W batches) worker s) (sym v)
    ∙ ap (λ (m : ℕ). replied (replies.Held m e) W (filter (goes worker) (all_held batches) ++ record { worker = worker; number = s.number; version = (value a).version } ∷ [])) (sym f)
    ∙ ap (λ (m : ℕ). replied (replies.Held from e) W (filter (goes worker) (all_held batches) ++ record { worker = worker; number = m; version = (value a).version } ∷ [])) (sym n)
    ∙ ap (λ (l : List Held). replied (replies.Held from e) W (l ++ record { worker = worker; number = number; version = (value a).version } ∷ [])) (sym (all_held-others worker batches))
    ∙ ap (replied (replies.Held from e) W) (sym (all_held-push (of_others worker batches) (record { worker = worker; number = number; version = value a })))

-- the keeper was not asked
abbrev idle : KeeperState → Keeping
idle keeper = keeping [] keeper keeper

handled-as : (keeper : KeeperState) (now worker max : ℕ) (index : List ℕ) (W : World) (batches new : List NamedBatch) (reply : Reply) (text : List ℕ)
    → read_at (machine W batches) worker max index (serving W.slots index) ≡ replied reply W (all_held new) → text ≡ printed reply
    → IsHandled (Read worker max index) now keeper keeper (machine W batches) (machine W new) text
handled-as keeper now worker max index W batches new reply text e t = record {
  takes = [];
  asked = (refl, refl);
  reply = t ∙ ap (λ (r : Replied). printed r.reply) (sym e);
  machine = ap (λ (r : Replied). r.machine) (sym e);
}

-- no index serves the name
pub reads-none : (keeper : KeeperState) (now worker max : ℕ) (index : List ℕ) (W : World) (batches : List NamedBatch) (text : List ℕ) → serving W.slots index ≡ None
    → text ≡ printed (replies.NoIndex index) → IsHandled (Read worker max index) now keeper keeper (machine W batches) (machine W batches) text
reads-none keeper now worker max index W batches text e t =
    handled-as keeper now worker max index W batches batches (replies.NoIndex index) text (ap (read_at (machine W batches) worker max index) e) t

pub reads-batch : {A : Type 0} (value : A → NamedVersion) (read : Option A) (keeper : KeeperState) (now worker max : ℕ) (index : List ℕ) (W : World) (batches new : List NamedBatch) (s : Slot)
    (number from : ℕ) (text : List ℕ) → serving W.slots index ≡ Some s → number ≡ s.number → from ≡ s.version.etag
    → option_map (λ (a : A). (value a).version) read ≡ batch s.version W.store max → new ≡ after_read worker number (option_map value read) batches
    → text ≡ printed (replies.Held from (read_to from (option_map value read))) → IsHandled (Read worker max index) now keeper keeper (machine W batches) (machine W new) text
reads-batch value read keeper now worker max index W batches new s number from text serves n f v is t =
    subst (λ (l : List NamedBatch). IsHandled (Read worker max index) now keeper keeper (machine W batches) (machine W l) text) (sym is)
    (handled-as keeper now worker max index W batches (after_read worker number (option_map value read) batches) (replies.Held from (read_to from (option_map value read))) text
    (read-step value read W batches worker max index s number from serves n f v) t)

-- what was read is answered so
pub reads-as : (keeper : KeeperState) (now worker max : ℕ) (index : List ℕ) (W : World) (batches new : List NamedBatch) (b : Batch) (text : List ℕ) → IsReadAt W max index b
    → new ≡ after_read worker b.number (option_map (λ v. v.value) b.version) batches → text ≡ printed (replies.Held b.from (read_to b.from (option_map (λ v. v.value) b.version)))
    → IsHandled (Read worker max index) now keeper keeper (machine W batches) (machine W new) text
reads-as keeper now worker max index W batches new b text at is t =
    reads-batch (λ v. v.value) b.version keeper now worker max index W batches new at.slot b.number b.from text at.serves at.read.number at.read.from at.read.version is t

-- PUBLISHING

pub publishes-nothing : (keeper : KeeperState) (now worker : ℕ) (W : World) (batches : List NamedBatch) (text : List ℕ) → find (λ (b : NamedBatch). b.worker == worker) batches ≡ None
    → text ≡ printed replies.NothingHeld → IsHandled (Publish worker) now keeper keeper (machine W batches) (machine W batches) text
publishes-nothing keeper now worker W batches text e t =
    let none = held_by-all worker batches ∙ ap (option_map held_of) e in
    record {
      takes = [];
      asked = (refl, refl);
      reply = t ∙ ap (λ (o : Option Held). printed (publish_by (machine W batches) worker o).reply) (sym none);
      machine = ap (λ (o : Option Held). (publish_by (machine W batches) worker o).machine) (sym none);
    }

-- the keeper is not asked for a change without rows
unasked : (before after : KeeperState) (takes : List Bool) (reply : Reply) (o : Result World PublishRefusal) → Asked before after takes (tasks_of (publishes reply o).changes)
    → (takes ≡ []) × (after ≡ before)
unasked before after takes reply (Err refusal) a = a
unasked before after takes reply (Ok W) a = a

-- a batch that the worker holds, and a publication of it that was settled
module _ (now worker : ℕ) (x y : Lived) (batches : List NamedBatch) (b : NamedBatch) (text : List ℕ) (e : find (λ (c : NamedBatch). c.worker == worker) batches ≡ Some b)
    (s : IsSettled (publication x.world b.number b.version.version) x y text) where
  abbrev before : Machine
  before = machine_with x (all_held batches)

  abbrev unfailed : Keeping
  unfailed = keeping [] x.keeper y.keeper

  abbrev changes : List Change
  changes = (publication x.world b.number b.version.version).changes

  abbrev due : Reply
  due = (publication x.world b.number b.version.version).reply

  none : (s.makes.takes ≡ []) × (y.keeper ≡ x.keeper)
  none = unasked x.keeper y.keeper s.makes.takes (published_reply b.version.version (numbered x.world.slots b.number)) (published x.world b.number b.version.version) s.makes.asked

  bare : record { reply = s.reply; machine = machine_in y } ≡ made unfailed (machine_of x.world) [] changes due
  bare = s.makes.made_is [] ∙ ap (λ (ts : List Bool). made unfailed (machine_of x.world) ts changes due) none.0

  whole : record { reply = s.reply; machine = machine_with y (all_held (of_others worker batches)) } ≡ step before unfailed now (Publish worker)
  whole = ap (λ (l : List Held). replied s.reply y.world l) (all_held-others worker batches)
      ∙ ap (holding (filter (goes worker) (all_held batches))) bare
      ∙ sym (made_held unfailed x.world (filter (goes worker) (all_held batches)) [] changes due)
      ∙ sym (publish_step before unfailed now worker (held_of b) (held_by-all worker batches ∙ ap (option_map held_of) e))

  pub publishes-batch : (new : List NamedBatch) → new ≡ of_others worker batches
      → IsHandled (Publish worker) now x.keeper y.keeper (machine_with x (all_held batches)) (machine_with y (all_held new)) text
  publishes-batch new is = record {
    takes = [];
    asked = (refl, none.1);
    reply = s.written ∙ ap (λ (r : Replied). printed r.reply) whole;
    machine = ap (λ (l : List NamedBatch). machine_with y (all_held l)) is ∙ ap (λ (r : Replied). r.machine) whole;
  }

-- under the number and the version that were handed over
pub publishes-as : (now worker : ℕ) (x y : Lived) (batches new : List NamedBatch) (b : NamedBatch) (n : ℕ) (v : NamedVersion) (course : Course) (text : List ℕ)
    → find (λ (b : NamedBatch). b.worker == worker) batches ≡ Some b → n ≡ b.number → v ≡ b.version → course ≡ publication x.world n v.version → IsSettled course x y text
    → new ≡ of_others worker batches → IsHandled (Publish worker) now x.keeper y.keeper (machine_with x (all_held batches)) (machine_with y (all_held new)) text
publishes-as now worker x y batches new b n v course text e number version course_is s is =
    let whole : course ≡ publication x.world b.number b.version.version =
    course_is ∙ ap (λ (k : ℕ). publication x.world k v.version) number ∙ ap (λ (u : NamedVersion). publication x.world b.number u.version) version in
    publishes-batch now worker x y batches b text e (subst (λ (c : Course). IsSettled c x y text) whole s) new is

-- a publication that found no memory changed nothing
pub publishes-short : (x y : Lived) (n : ℕ) (v : NamedVersion) (course : Course) → course ≡ publication x.world n v.version → Stays x y ⊎ IsMadeInPart course.changes x y → Stays x y
publishes-short x y n v course is (inl s) = s
publishes-short x y n v course is (inr part) =
    by (published_reply v.version (numbered x.world.slots n)) (published x.world n v.version) (subst (λ (c : Course). IsMadeInPart c.changes x y) is part)
  where
    by : (reply : Reply) (o : Result World PublishRefusal) → IsMadeInPart (publishes reply o).changes x y → Stays x y
    by reply (Err refusal) p = alone [] x y (omega arith) p
    by reply (Ok W) p = alone (storing [] W ∷ []) x y (omega arith) p
