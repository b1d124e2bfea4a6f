-- The changes of a TIDY, one after another.
use Rattle.std.proofs.Common.{◌≡◌, ℕ, ◌+◌, ◌-◌, ◌<◌, drop, get_or, List, [], ◌∷◌, ◌++◌, Option, Some, None, Ok, Err, IfSome, length, refl, sym, ap, ◌∙◌, subst, arith, append_assoc}
use Rattle.std.proofs.lemmas.List.{append-nil, drop_more}
use Rattle.std.specs.List.{slice_get}
use Rattle.spec_data.specs.Rows.{Row}
use Rattle.spec_index.specs.World.{World, switch}
use Rattle.spec_server.specs.Courses.{Change, Course, one_change, only_reply, storing, then_course}
use Rattle.spec_server.specs.Indexing.{retire, tidy, try_switch}
use Rattle.spec_server.specs.Replies.{Reply}
use Rattle.spec_desk.specs.Stepped.{world_after}
use Rattle.raven_reply.specs.ReplyView.{reply_view}
use Rattle.raven_reply.specs.declared.reply.Reply as program
use Rattle.raven_world.specs.WorldView.{tried_view}
use Rattle.raven_world.specs.declared.switch.Taken.{Taken}
use Rattle.raven_world.specs.declared.world.WorldFault.{WorldFault}
use Rattle.raven_world.specs.declared.world.WorldFault.TheVariants.{Refused}
use Rattle.raven_desk.specs.CourseView.{after_changes, changes_with, names_with}

-- THE LAST WORLD

last_in : (W : World) (x c : Change) (changes : List Change) → slice_get (x ∷ changes) (length changes) ≡ Some c → world_after W (x ∷ changes) ≡ c.world
last_in W x c [] h = let same : x ≡ c = cc in ap (λ (y : Change). y.world) same
last_in W x c (y ∷ changes) h = last_in x.world y c changes h

pub last_world : (W : World) (changes : List Change) (c : Change) → slice_get changes (length changes - 1) ≡ Some c → world_after W changes ≡ c.world
last_world W [] c h = absurd cc
last_world W (x ∷ changes) c h = last_in W x c changes (ap (slice_get (x ∷ changes)) (let e : length changes ≡ length (x ∷ changes) - 1 = omega arith in e) ∙ h)

pub world_after-push : (W : World) (changes : List Change) (c : Change) → world_after W (changes ++ c ∷ []) ≡ c.world
world_after-push W [] c = refl
world_after-push W (x ∷ changes) c = world_after-push x.world changes c

-- THE COURSE

pub after_changes-push : (changes : List Change) (c : Change) (course : Course) → after_changes (changes ++ c ∷ []) course ≡ after_changes changes (then_course c course)
after_changes-push changes c course = ap (λ (all : List Change). (let x : Course = record { changes = all; reply = course.reply } in x)) (append_assoc changes (c ∷ []) course.changes)

-- the whole course, after these changes and with these names left
pub record Goes (now : ℕ) (all : List (List ℕ)) (W : World) (changes : List Change) (left switched : List (List ℕ)) : Type 0 where
  pub whole : tidy now all W [] ≡ after_changes changes (tidy now left (world_after W changes) switched)

pub begins : (now : ℕ) (all : List (List ℕ)) (W : World) → Goes now all W [] all []
begins now all W = record { whole = refl }

-- the first name that is left
pub next_name : (now : ℕ) (all names : List (List ℕ)) (W : World) (changes : List Change) (switched : List (List ℕ)) (i : ℕ) (name : List ℕ) → i < length names → get_or names i name ≡ name
    → Goes now all W changes (drop i names) switched → Goes now all W changes (name ∷ drop (i + 1) names) switched
next_name now all names W changes switched i name lt is g =
    subst (λ (left : List (List ℕ)). Goes now all W changes left switched) (drop_more names i name lt ∙ ap (λ (x : List ℕ). x ∷ drop (i + 1) names) is) g

-- a name was switched
pub goes_on : (now : ℕ) (all : List (List ℕ)) (W : World) (changes : List Change) (name : List ℕ) (left switched : List (List ℕ)) (rows : List Row) (N : World) (taken : List ℕ) (c : Change)
    → Goes now all W changes (name ∷ left) switched → c ≡ storing rows N
    → then_course (storing rows N) (tidy now left N (switched ++ taken ∷ []))
    ≡ try_switch (world_after W changes) now switched (λ V done. tidy now left V done) (switch (world_after W changes) name)
    → Goes now all W (changes ++ c ∷ []) left (switched ++ taken ∷ [])
goes_on now all W changes name left switched rows N taken c g is e = record {
  whole = g.whole ∙ ap (after_changes changes) (sym e)
      ∙ ap (λ (d : Change). after_changes changes (then_course d (tidy now left d.world (switched ++ taken ∷ [])))) (sym is)
      ∙ sym (after_changes-push changes c (tidy now left c.world (switched ++ taken ∷ [])))
      ∙ ap (λ (V : World). after_changes (changes ++ c ∷ []) (tidy now left V (switched ++ taken ∷ []))) (sym (world_after-push W changes c));
}

-- a name was passed over
pub passes : (now : ℕ) (all : List (List ℕ)) (W : World) (changes : List Change) (name : List ℕ) (left switched : List (List ℕ)) → Goes now all W changes (name ∷ left) switched
    → tidy now left (world_after W changes) switched ≡ try_switch (world_after W changes) now switched (λ V done. tidy now left V done) (switch (world_after W changes) name)
    → Goes now all W changes left switched
passes now all W changes name left switched g e = record { whole = g.whole ∙ ap (after_changes changes) (sym e) }

-- a switch was refused
pub refused : (now : ℕ) (all : List (List ℕ)) (W : World) (changes : List Change) (name : List ℕ) (left switched : List (List ℕ)) (reply : Reply) → Goes now all W changes (name ∷ left) switched
    → only_reply reply ≡ try_switch (world_after W changes) now switched (λ V done. tidy now left V done) (switch (world_after W changes) name)
    → record { changes = changes; reply = reply } ≡ tidy now all W []
refused now all W changes name left switched reply g e =
    ap (λ (l : List Change). (let x : Course = record { changes = l; reply = reply } in x)) (sym (append-nil changes)) ∙ ap (after_changes changes) e ∙ sym g.whole

-- all names were tried
pub ends : (now : ℕ) (all : List (List ℕ)) (W : World) (changes : List Change) (switched : List (List ℕ)) (course : Course) → Goes now all W changes [] switched
    → course ≡ after_changes changes (retire (world_after W changes) now switched) → course ≡ tidy now all W []
ends now all W changes switched course g e = e ∙ sym g.whole

-- RETIREMENT

pub retired_as : (changes : List Change) (reply : Reply) (rows : List Row) (N : World) (c : Change) (course : Course) → c ≡ storing rows N → one_change reply rows N ≡ course
    → record { changes = changes ++ c ∷ []; reply = reply } ≡ after_changes changes course
retired_as changes reply rows N c course is e =
    ap (λ (d : Change). (let x : Course = record { changes = changes ++ d ∷ []; reply = reply } in x)) is ∙ ap (after_changes changes) e

pub not_retired : (changes : List Change) (reply : Reply) (course : Course) → only_reply reply ≡ course → record { changes = changes; reply = reply } ≡ after_changes changes course
not_retired changes reply course e =
    ap (λ (l : List Change). (let x : Course = record { changes = l; reply = reply } in x)) (sym (append-nil changes)) ∙ ap (after_changes changes) e

-- WHAT A TRY SAYS, on the world after these changes

-- it is switched or passed over
pub tried_on : (now : ℕ) (all : List (List ℕ)) (W : World) (changes : List Change) (name : List ℕ) (left switched : List (List ℕ)) (V : World) (tried : Option Taken)
    → Goes now all W changes (name ∷ left) switched → V ≡ world_after W changes
    → IfSome (tried_view V switched (λ X done. tidy now left X done) (Ok tried)) (λ course. course ≡ try_switch V now switched (λ X done. tidy now left X done) (switch V name))
    → Goes now all W (changes_with changes tried) left (names_with switched tried)
tried_on now all W changes name left switched V None g at h =
    passes now all W changes name left switched g
    (subst (λ (U : World). tidy now left U switched ≡ try_switch U now switched (λ X done. tidy now left X done) (switch U name)) at h)
tried_on now all W changes name left switched V (Some t) g at h =
    goes_on now all W changes name left switched t.rows t.world t.name (storing t.rows t.world) g refl
    (subst (λ (U : World). then_course (storing t.rows t.world) (tidy now left t.world (switched ++ t.name ∷ []))
    ≡ try_switch U now switched (λ X done. tidy now left X done) (switch U name)) at h)

pub left_as : (now : ℕ) (all : List (List ℕ)) (W : World) (left : List (List ℕ)) (changes new : List Change) (names more : List (List ℕ)) → new ≡ changes → more ≡ names
    → Goes now all W changes left names → Goes now all W new left more
left_as now all W left changes new names more e f g =
    subst (λ (l : List Change). Goes now all W l left more) (sym e) (subst (λ (l : List (List ℕ)). Goes now all W changes left l) (sym f) g)

pub not_taken : (now : ℕ) (left : List (List ℕ)) (W V : World) (switched : List (List ℕ)) (name : List ℕ) (fault : WorldFault) (reply : program.Reply) → W ≡ V → fault ≡ Refused reply
    → IfSome (tried_view W switched (λ X done. tidy now left X done) (Err fault)) (λ course. course ≡ try_switch W now switched (λ X done. tidy now left X done) (switch W name))
    → only_reply (reply_view reply) ≡ try_switch V now switched (λ X done. tidy now left X done) (switch V name)
not_taken now left W V switched name fault reply at is h =
    subst (λ (U : World). only_reply (reply_view reply) ≡ try_switch U now switched (λ X done. tidy now left X done) (switch U name)) at
    (subst (λ (f : WorldFault). IfSome (tried_view W switched (λ X done. tidy now left X done) (Err f))
    (λ course. course ≡ try_switch W now switched (λ X done. tidy now left X done) (switch W name))) is h)
