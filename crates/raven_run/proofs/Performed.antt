-- What a request leaves once its changes were settled.
use Rattle.std.proofs.Common.{◌≡◌, ℕ, Bool, true, false, ◌⊎◌, inl, inr, List, Result, Ok, Err, IfOk, OnErr, OnOk, refl, sym, ap, ◌∙◌, subst}
use Rattle.spec_index.specs.World.{World}
use Rattle.spec_server.specs.Requests.{Do, Request, makes_several}
use Rattle.spec_server.specs.Courses.{Course, Held, Machine, Replied}
use Rattle.spec_server.specs.Machine.{course_of, step}
use Rattle.spec_server.specs.Replies.{printed}
use Rattle.spec_desk.specs.Keepers.{keeping}
use Rattle.spec_desk.specs.Lived.{Lived, machine_in, machine_with}
use Rattle.spec_desk.specs.Stepped.{IsMadeInPart, Makes, Settled, Settles, Stays, reply_after}
use Rattle.raven_laws.proofs.Acts.{one-at-most}
use Rattle.spec_desk.proofs.Making.{stepped}
use Rattle.spec_desk.proofs.Parts.{alone, holding, made_held}
use Rattle.raven_run.specs.Answering.{IsCut, IsHandled, IsPerformed, IsSettled}
use Rattle.raven_run.specs.Holding.{NamedBatch, all_held}

-- SETTLED

pub is_settled : (x y : Lived) (course : Course) (s : Settled) (text : List ℕ) → Settles course.changes x s y → text ≡ printed (reply_after s course.reply) → IsSettled course x y text
is_settled x y course s text h t = record { reply = reply_after s course.reply; makes = h course.reply; written = t }

-- what settles the course of a request performs it
pub performed : (now : ℕ) (request : Request) (x y : Lived) (course : Course) (text : List ℕ) → course ≡ course_of x.world now request → IsSettled course x y text
    → IsPerformed request now x y text
performed now request x y course text is s =
    let makes = subst (λ (c : Course). Makes x.keeper.count c.changes c.reply x s.reply y) is s.makes in
    record { reply = s.reply; step = stepped now request x s.reply y makes; written = s.written }

-- whatever workers hold
pub handled : (now : ℕ) (request : Request) (x y : Lived) (held : List Held) (text : List ℕ) → IsPerformed request now x y text
    → IsHandled (Do request) now x.keeper y.keeper (machine_with x held) (machine_with y held) text
handled now request x y held text p =
    let k = keeping p.step.takes x.keeper y.keeper in
    let same : step (machine_with x held) k now (Do request) ≡ holding held (step (machine_in x) k now (Do request)) =
    (let c = course_of x.world now request in made_held k x.world held p.step.takes c.changes c.reply) in
    record {
      takes = p.step.takes;
      asked = p.step.asked;
      reply = p.written ∙ ap printed p.step.reply_is ∙ ap (λ (r : Replied). printed r.reply) (sym same);
      machine = ap (λ (N : Machine). (let V : Machine = record { world = N.world; held = held } in V)) p.step.machine ∙ ap (λ (r : Replied). r.machine) (sym same);
    }

-- MEMORY RAN OUT

pub untouched : (WasAsked : Request → Type 0) (now : ℕ) (x y : Lived) (held : List Held) → Stays x y → IsCut WasAsked now (machine_with x held) x.keeper (machine_with y held) y.keeper.held
untouched WasAsked now x y held s = inl (ap (λ (V : World). (let M : Machine = record { world = V; held = held } in M)) s.0, s.1)

-- and workers hold what they held
pub untouched_by : (WasAsked : Request → Type 0) (now : ℕ) (x y : Lived) (old new : List NamedBatch) → new ≡ old → Stays x y
    → IsCut WasAsked now (machine_with x (all_held old)) x.keeper (machine_with y (all_held new)) y.keeper.held
untouched_by WasAsked now x y old new e s =
    subst (λ (l : List NamedBatch). IsCut WasAsked now (machine_with x (all_held old)) x.keeper (machine_with y (all_held l)) y.keeper.held) (sym e) (untouched WasAsked now x y (all_held old) s)

pub cut : (now : ℕ) (request : Request) (x y : Lived) (held : List Held) → Stays x y ⊎ IsMadeInPart (course_of x.world now request).changes x y
    → IsCut (λ (q : Request). Do request ≡ Do q) now (machine_with x held) x.keeper (machine_with y held) y.keeper.held
cut now request x y held (inl s) = untouched (λ (q : Request). Do request ≡ Do q) now x y held s
cut now request x y held (inr part) = by (makes_several request) refl
  where
    by : (b : Bool) → makes_several request ≡ b → IsCut (λ (q : Request). Do request ≡ Do q) now (machine_with x held) x.keeper (machine_with y held) y.keeper.held
    by true e = inr (record { request = request; asked = refl; several = e; part = part; workers = refl })
    by false e = untouched (λ (q : Request). Do request ≡ Do q) now x y held (alone (course_of x.world now request).changes x y (one-at-most x.world now request e) part)

-- RESULTS

-- what holds of a result holds of it as something that follows
pub if_ok : {T E : Type 0} (r : Result T E) (P Q : T → Type 0) → ((t : T) → P t → Q t) → IfOk r P → IfOk r Q
if_ok (Ok t) P Q f h = f t h
if_ok (Err e) P Q f h = tt

pub if_err : {T E : Type 0} (r : Result T E) (P Q : Type 0) → (P → Q) → OnErr r P → OnErr r Q
if_err (Ok t) P Q f h = tt
if_err (Err e) P Q f h = f h

pub on_err : {T E : Type 0} (r : Result T E) (P : Type 0) → P → OnErr r P
on_err (Ok t) P p = tt
on_err (Err e) P p = p

-- what holds of a result and of what it left, if it is no error
pub if_both : {T E : Type 0} (r : Result T E) (P R : T → Type 0) (Q : Type 0) → ((t : T) → P t → Q → R t) → IfOk r P → OnOk r Q → IfOk r R
if_both (Ok t) P R Q f h k = f t h k
if_both (Err e) P R Q f h k = tt

-- what is left is this if it is no error, and that if it is one
pub either_way : {T E A : Type 0} (r : Result T E) (P : A → Type 0) (new a b : A) → OnOk r (new ≡ a) → OnErr r (new ≡ b) → P a → P b → P new
either_way (Ok t) P new a b h k p q = subst P (sym h) p
either_way (Err e) P new a b h k p q = subst P (sym k) q
