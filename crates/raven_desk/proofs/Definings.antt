-- The changes of several definitions, one after another.
use Rattle.std.proofs.Common.{◌≡◌, ℕ, List, [], ◌∷◌, ◌++◌, Result, Ok, Err, IfSome, length, map, refl, sym, ap, ◌∙◌, subst, arith}
use Rattle.std.proofs.lemmas.List.{append-nil}
use Rattle.spec_data.specs.Rows.{Row}
use Rattle.spec_store.specs.Commit.{Server, Written, Refused, commit}
use Rattle.index_tree.specs.Definitions.{Definition}
use Rattle.spec_index.specs.World.{SlotChange, SlotRefusal, World, define_named}
use Rattle.spec_server.specs.Courses.{Change, Course, changed, one_change, only_reply, storing, then_course}
use Rattle.spec_server.specs.Indexing.{change_of_slots, define_parts, define_then, rewrote, slot_refused, switch_and}
use Rattle.spec_server.specs.Writes.{write_refused}
use Rattle.spec_server.specs.Machine.{course_of}
use Rattle.spec_server.specs.Replies.{Defined, Index, Reply}
use Rattle.spec_server.specs.Requests.{Define}
use Rattle.spec_desk.specs.Stepped.{world_after}
use Rattle.index_lang.specs.ByTexts.{Named}
use Rattle.raven_reply.specs.ReplyView.{reply_view}
use Rattle.raven_reply.specs.declared.reply.Reply as program
use Rattle.raven_world.specs.WorldView.{made_view, named}
use Rattle.raven_world.specs.declared.world.Made.{Made}
use Rattle.raven_world.specs.declared.world.WorldFault.{WorldFault}
use Rattle.raven_world.specs.declared.world.WorldFault.TheVariants as because
use Rattle.raven_desk.specs.CourseView.{after_changes, change_with}
use Rattle.raven_desk.proofs.Courses.{after_changes-push, world_after-push}

-- ONE DEFINITION

none_is : {A : Type 0} (x : A) → (let l : List A = [] in l) ≡ x ∷ [] → ⊥
none_is x e = absurd cc

alone : {A : Type 0} (x y : A) → x ∷ [] ≡ y ∷ [] → x ≡ y
alone x y e = cc

called_same : (a b : List ℕ) → Index a ≡ Index b → a ≡ b
called_same a b e = cc

-- a course without a change has none
changes_none : (reply told : Reply) (rows : List Row) (X : World) → only_reply reply ≡ one_change told rows X → ⊥
changes_none reply told rows X e = none_is (storing rows X) (ap (λ (o : Course). o.changes) e)

-- what comes after a definition that was made
made_then : (V : World) (now : ℕ) (name : List ℕ) (d : Definition) (more : World → List ℕ → Course) (m : Made) → one_change (Index m.name) m.rows m.world ≡ course_of V now (Define name d)
    → define_then V now name more (define_named V name d) ≡ then_course (storing m.rows m.world) (more m.world m.name)
made_then V now name d more m h = by (define_named V name d) h
  where
    committed : (c : SlotChange) (r : Result Written Refused) → one_change (Index m.name) m.rows m.world ≡ rewrote V (Index c.name) c r
        → switch_and V c (λ X. more X c.name) r ≡ then_course (storing m.rows m.world) (more m.world m.name)
    committed c (Err refused) e = absurd (changes_none (write_refused refused) (Index m.name) m.rows m.world (sym e))
    committed c (Ok w) e =
        let same = alone (storing m.rows m.world) (storing w.rows (changed V w.store c)) (ap (λ (o : Course). o.changes) e) in
        let called = called_same m.name c.name (ap (λ (o : Course). o.reply) e) in
        let left = ap (λ (x : Change). x.world) same in
        λ i. then_course (sym same i) (more (sym left i) (sym called i))

    by : (r : Result SlotChange SlotRefusal) → one_change (Index m.name) m.rows m.world ≡ change_of_slots V now Index name r
        → define_then V now name more r ≡ then_course (storing m.rows m.world) (more m.world m.name)
    by (Err refusal) e = absurd (changes_none (slot_refused name refusal) (Index m.name) m.rows m.world (sym e))
    by (Ok c) e = committed c (commit V.setting Server now c.commands V.store) e

-- nothing comes after one that was refused
refused_then : (V : World) (now : ℕ) (name : List ℕ) (d : Definition) (more : World → List ℕ → Course) (reply : Reply) → only_reply reply ≡ course_of V now (Define name d)
    → only_reply reply ≡ define_then V now name more (define_named V name d)
refused_then V now name d more reply h = by (define_named V name d) h
  where
    committed : (c : SlotChange) (r : Result Written Refused) → only_reply reply ≡ rewrote V (Index c.name) c r → only_reply reply ≡ switch_and V c (λ X. more X c.name) r
    committed c (Err refused) e = e
    committed c (Ok w) e = absurd (changes_none reply (Index c.name) w.rows (changed V w.store c) e)

    by : (r : Result SlotChange SlotRefusal) → only_reply reply ≡ change_of_slots V now Index name r → only_reply reply ≡ define_then V now name more r
    by (Err refusal) e = e
    by (Ok c) e = committed c (commit V.setting Server now c.commands V.store) e

-- THE COURSE

-- each part with its name
abbrev pub parts_in : List Named → List (List ℕ × Definition)
parts_in ds = map (λ d. (d.name, d.definition)) ds

-- the whole course, after these changes, which gave these indexes, and with these parts left
pub record Goes (now : ℕ) (all : List Named) (W : World) (changes : List Change) (left : List Named) (names : List (List ℕ)) : Type 0 where
  pub whole : define_parts now (parts_in all) W [] ≡ after_changes changes (define_parts now (parts_in left) (world_after W changes) names)

begins : (now : ℕ) (all : List Named) (W : World) → Goes now all W [] all []
begins now all W = record { whole = refl }

pub left_as : (now : ℕ) (all : List Named) (W : World) (left : List Named) (changes new : List Change) (names more : List (List ℕ)) → new ≡ changes → more ≡ names
    → Goes now all W changes left names → Goes now all W new left more
left_as now all W left changes new names more e f g =
    subst (λ (l : List Change). Goes now all W l left more) (sym e) (subst (λ (l : List (List ℕ)). Goes now all W changes left l) (sym f) g)

-- at the start
pub begins_as : (now : ℕ) (all : List Named) (W : World) (changes : List Change) (left : List Named) (names : List (List ℕ)) → changes ≡ [] → left ≡ all → names ≡ []
    → Goes now all W changes left names
begins_as now all W changes left names e same f =
    left_as now all W left [] changes [] names e f (subst (λ (l : List Named). Goes now all W [] l []) (sym same) (begins now all W))

-- a part was defined, in the world after these changes
pub goes_on : (now : ℕ) (all : List Named) (W : World) (changes : List Change) (d : Named) (left : List Named) (names : List (List ℕ)) (V : World) (m : Made) → Goes now all W changes (d ∷ left) names
    → V ≡ world_after W changes → one_change (Index m.name) m.rows m.world ≡ course_of V now (Define d.name d.definition)
    → Goes now all W (change_with changes m) left (names ++ m.name ∷ [])
goes_on now all W changes d left names V m g at h =
    let c = storing m.rows m.world in
    let more : World → List ℕ → Course = λ X name. define_parts now (parts_in left) X (names ++ name ∷ []) in
    let made = subst (λ (X : World). one_change (Index m.name) m.rows m.world ≡ course_of X now (Define d.name d.definition)) at h in
    record {
      whole = g.whole ∙ ap (after_changes changes) (made_then (world_after W changes) now d.name d.definition more m made)
          ∙ sym (after_changes-push changes c (define_parts now (parts_in left) m.world (names ++ m.name ∷ [])))
          ∙ ap (λ (X : World). after_changes (changes ++ c ∷ []) (define_parts now (parts_in left) X (names ++ m.name ∷ []))) (sym (world_after-push W changes c));
    }

-- why a part was refused is what a definition of it alone replies
pub not_defined : (now : ℕ) (V : World) (d : Named) (fault : WorldFault) (reply : program.Reply) → fault ≡ because.Refused reply
    → IfSome (made_view named (Err fault)) (λ course. course ≡ course_of V now (Define d.name d.definition)) → only_reply (reply_view reply) ≡ course_of V now (Define d.name d.definition)
not_defined now V d fault reply is h =
    subst (λ (f : WorldFault). IfSome (made_view named (Err f)) (λ course. course ≡ course_of V now (Define d.name d.definition))) is h

-- a part was refused
pub refused : (now : ℕ) (all : List Named) (W : World) (changes : List Change) (d : Named) (left : List Named) (names : List (List ℕ)) (V : World) (reply : Reply)
    → Goes now all W changes (d ∷ left) names → V ≡ world_after W changes → only_reply reply ≡ course_of V now (Define d.name d.definition)
    → record { changes = changes; reply = reply } ≡ define_parts now (parts_in all) W []
refused now all W changes d left names V reply g at h =
    let more : World → List ℕ → Course = λ X name. define_parts now (parts_in left) X (names ++ name ∷ []) in
    let told = subst (λ (X : World). only_reply reply ≡ course_of X now (Define d.name d.definition)) at h in
    ap (λ (l : List Change). (let x : Course = record { changes = l; reply = reply } in x)) (sym (append-nil changes))
    ∙ ap (after_changes changes) (refused_then (world_after W changes) now d.name d.definition more reply told) ∙ sym g.whole

pub nothing_left : (left : List Named) → length left ≡ 0 → left ≡ []
nothing_left [] h = refl
nothing_left (d ∷ left) h = absurd (omega arith)

-- all parts were defined
pub ends : (now : ℕ) (all : List Named) (W : World) (changes : List Change) (names : List (List ℕ)) → Goes now all W changes [] names
    → record { changes = changes; reply = Defined names } ≡ define_parts now (parts_in all) W []
ends now all W changes names g =
    ap (λ (l : List Change). (let x : Course = record { changes = l; reply = Defined names } in x)) (sym (append-nil changes)) ∙ sym g.whole
