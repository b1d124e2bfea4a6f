-- What a cleaning removes, and what it leaves.
use Rattle.std.proofs.Common.{◌≡◌, ◌↔◌, ℕ, ◌≤◌, ◌-◌, List, [], ◌∷◌, Bool, true, false, cond, length, Some, None, refl, sym, ap, ◌∙◌, subst, arith, ◌⊎◌, inl, inr}
use Rattle.std.proofs.lemmas.Bool.Decides.{leb_tells}
use Rattle.spec_data.specs.Rows.{Row, is_document}
use Rattle.spec_store.specs.Store.{Store, IsStore, last, row_at}
use Rattle.spec_store.specs.Later.{Later, StillHas}
use Rattle.spec_store.specs.Cleaning.{is_old_tombstone, old_tombstones}
use Rattle.spec_index.specs.Cleaning.{clean_upto, cleaned_world, etags_reached}
use Rattle.spec_index.specs.World.{World, serving}
use Rattle.spec_server.specs.Requests.{AreFromClients, Event, IsFromClient, Keeping, Line, Request, Clean, Do, Publish, Read}
use Rattle.spec_server.specs.Courses.{Change, Machine, is_taken, same_machine, with_world}
use Rattle.spec_server.specs.Workers.{held_by}
use Rattle.spec_server.specs.Machine.{after, course_of, run, step}
use Rattle.spec_server.specs.Replies.{Reply}
use Rattle.spec_server.specs.Sound.{IsMachine, Sound}
use Rattle.raven_laws.specs.Cleaning.{CleanIsAnswered, IsCleanDone, IsOld, IsReached, Stands, WasDeleted}
use Rattle.raven_laws.specs.Keeping.{AreTheirRows, IsDone, IsStored}
use Rattle.raven_laws.specs.Writes.{IsKeeperFault}
use Rattle.spec_store.proofs.StoreLemmas.{found_etag, same_row}
use Rattle.spec_store.proofs.LaterLemmas.{StillHas-itself, StillHas-then}
use Rattle.spec_store.proofs.CommitLemmas.{cleaned-with_rows}
use Rattle.spec_store.proofs.CleanLemmas.{clean-iff, last-clean, not_old, old_means, past_stays}
use Rattle.raven_laws.proofs.KeepLemmas.{changes-rows}
use Rattle.raven_laws.proofs.Acts.{AllDo, AllLeave, IsAct, all-acts, course-acts, leave-weaker}
use Rattle.raven_laws.proofs.Moving.{clean-within, least-greatest, least-most, least-reached}
use Rattle.raven_laws.proofs.MachineLemmas.{publish-store, read-world, run-Steps, settled-leaves, step-Steps}

-- HOW FAR IT GOES

pub reached-iff : (W : World) (n : ℕ) → IsReached W n ↔ (n ≤ clean_upto W)
reached-iff W n = (
  λ r. least-greatest n (last W.store - 1) W.slots r.below r.by_all,
  λ le. record {
    below = let a = least-most (last W.store - 1) (etags_reached W.slots) in omega arith;
    by_all = λ s h some. let a = least-reached (last W.store - 1) W.slots s h some in omega arith;
  },
)

-- WHAT IT REMOVES

not_old-iff : (upto : ℕ) (r : Row) → (is_old_tombstone upto r ≡ false) ↔ (IsOld upto r → ⊥)
not_old-iff upto r = (
  λ h o. let e = is_old upto r o in let f : true ≡ false = sym e ∙ h in cc,
  λ never. elim (is_old_tombstone upto r) as (λ b. is_old_tombstone upto r ≡ b → b ≡ false) [
    | true ↦ λ e. absurd (let m = old_means upto r e in never (record { deleted = m.0; old = m.1 }))
    | false ↦ λ e. refl
  ] refl,
)
  where
    is_old : (upto : ℕ) (r : Row) → IsOld upto r → is_old_tombstone upto r ≡ true
    is_old upto r o = elim (is_old_tombstone upto r) as (λ b. is_old_tombstone upto r ≡ b → b ≡ true) [
      | true ↦ λ e. refl
      | false ↦ λ e. absurd (let d = o.deleted in let f = o.old in let p = not_old upto r e d in omega arith)
    ] refl

left : (W : World) (q : List ℕ) (r : Row) → Sound W → (row_at q (cleaned_world W).store.rows ≡ Some r) ↔ ((row_at q W.store.rows ≡ Some r) × (IsOld (clean_upto W) r → ⊥))
left W q r o =
    let c = clean-iff (clean_upto W) W.store q r o.store in
    let n = not_old-iff (clean_upto W) r in
    (λ h. let f = c.0 h in (f.0, n.0 f.1), λ h. c.1 (h.0, n.1 h.1))

pub clean-answered : (M : Machine) (k : Keeping) (now : ℕ) → Sound M.world → CleanIsAnswered M k now
clean-answered M k now o = by (old_tombstones (clean_upto M.world) M.world.store.rows) refl
  where
    done : (gone : List Row) → old_tombstones (clean_upto M.world) M.world.store.rows ≡ gone → is_taken k.takes gone ≡ true
        → IsCleanDone M k (record { reply = Reply.CleanDone (length gone) (clean_upto M.world); machine = with_world M (cleaned_world M.world) })
    done gone e t = record {
      taken = ap (is_taken k.takes) e ∙ t;
      reply = ap (λ rows. Reply.CleanDone (length rows) (clean_upto M.world)) (sym e);
      rows = λ q r. left M.world q r o;
      last_stays = last-clean (clean_upto M.world) M.world.store o.store (clean-within M.world);
      slots = refl;
      notes = refl;
      held = refl;
    }

    by : (gone : List Row) → old_tombstones (clean_upto M.world) M.world.store.rows ≡ gone
        → let replied = cond (is_taken k.takes gone) (record { reply = Reply.CleanDone (length gone) (clean_upto M.world); machine = with_world M (cleaned_world M.world) }) (same_machine M (Reply.KeeperFault k.before k.after)) in
        IsKeeperFault M k replied ⊎ IsCleanDone M k replied
    by [] e = inr (done [] e refl)
    by (r ∷ gone) e = asked k.takes refl
      where
        asked : (takes : List Bool) → k.takes ≡ takes
            → let replied = cond (is_taken takes (r ∷ gone)) (record { reply = Reply.CleanDone (length (r ∷ gone)) (clean_upto M.world); machine = with_world M (cleaned_world M.world) }) (same_machine M (Reply.KeeperFault k.before k.after)) in
            IsKeeperFault M k replied ⊎ IsCleanDone M k replied
        asked [] f = inr (done (r ∷ gone) e (ap (λ ts. is_taken ts (r ∷ gone)) f))
        asked (true ∷ more) f = inr (done (r ∷ gone) e (ap (λ ts. is_taken ts (r ∷ gone)) f))
        asked (false ∷ more) f = inl (record { later = more; failed = f; reply = refl })

-- the row with the greatest etag stays
pub newest-stays : (W : World) (q : List ℕ) (r : Row) → Sound W → row_at q W.store.rows ≡ Some r → r.etag ≡ last W.store → row_at q (cleaned_world W).store.rows ≡ Some r
newest-stays W q r o h is =
    (clean-iff (clean_upto W) W.store q r o.store).1 (h, past_stays (clean_upto W) r (let a = clean-within W in let b = (found_etag 0 q W.store.rows r o.store.rising h).0 in omega arith))

-- WHAT IS KEPT OF WHAT WAS WRITTEN

pub rows-Stand : (S N : Store) (q : List ℕ) (r : Row) → IsStore S → Later S N → row_at q S.rows ≡ Some r → Stands N q r
rows-Stand S N q r s l h = elim (l.kept q r h) [
  | inr c ↦ inr (inr c.reached)
  | inl k ↦ elim (leb_tells k.row.etag r.etag) [
    | inl y ↦
        let at = l.settled q k.row k.found (let a = (found_etag 0 q S.rows r s.rising h).1 in let b = y.1 in omega arith) in
        inl (k.found ∙ ap Some (same_row k.row r (sym at ∙ h)))
    | inr n ↦ inr (inl (k.row, k.found, n.1))
  ]
]

-- WHICH CHANGES CLEAN

abbrev AreStored : List Change → Type 0
AreStored [] = Unit {0}
AreStored (c ∷ more) = (c.cleans ≡ None) × AreStored more

-- only a cleaning cleans
act-stored : (now : ℕ) (r : Request) (W : World) (c : Change) → IsAct now r W c → (c.cleans ≡ None) ⊎ (r ≡ Clean)
act-stored now r W c (IsAct.writes w is e) = inl (ap (λ (x : Change). x.cleans) e)
act-stored now r W c (IsAct.reslots a) = inl (ap (λ (x : Change). x.cleans) a.is)
act-stored now r W c (IsAct.advances max chosen e) = inl (ap (λ (x : Change). x.cleans) e)
act-stored now r W c (IsAct.cleans is e) = inr is

all-stored : (now : ℕ) (r : Request) (W : World) (changes : List Change) → AllDo (IsAct now r) W changes → AreStored changes ⊎ (r ≡ Clean)
all-stored now r W [] all = inl tt
all-stored now r W (c ∷ more) all = elim (act-stored now r W c all.0) [
  | inr is ↦ inr is
  | inl here ↦ elim (all-stored now r c.world more all.1) [ inl later ↦ inl (here, later) | inr is ↦ inr is ]
]

course-stored : (W : World) (now : ℕ) (r : Request) → AreStored (course_of W now r).changes ⊎ (r ≡ Clean)
course-stored W now r = let cs = (course_of W now r).changes in all-stored now r W cs (all-acts now r W cs (course-acts W now r))

-- storing rows cleans nothing
stored-cleaned : (S : Store) (n : ℕ) (changes : List Change) → S.cleaned ≤ n → AreStored changes → AreTheirRows S changes → AllLeave (λ V. V.store.cleaned ≤ n) changes
stored-cleaned S n [] le all a = tt
stored-cleaned S n (c ∷ more) le all a = (here, stored-cleaned c.world.store n more here all.1 a.1)
  where
    stored : IsStored S c
    stored = subst (IsDone S c) all.0 a.0

    here : c.world.store.cleaned ≤ n
    here = let e = ap (λ (T : Store). T.cleaned) stored.store ∙ cleaned-with_rows S c.rows in omega arith

-- if a step cleans more, the etag of the last row stays
abbrev Cleans : Store → Store → Type 0
Cleans S N = (N.cleaned ≤ S.cleaned) ⊎ (last N ≡ last S)

step-Cleans : (M : Machine) (k : Keeping) (now : ℕ) (line : Line) → Sound M.world → Cleans M.world.store (step M k now line).machine.world.store
step-Cleans M k now (Do request) o =
    let course = course_of M.world now request in
    let S = M.world.store in
    settled-leaves (λ V. Cleans S V.store) M k course (inl (omega arith)) (elim (course-stored M.world now request) [
      | inl all ↦ leave-weaker (λ V. V.store.cleaned ≤ S.cleaned) (λ V. Cleans S V.store) (λ V le. inl le) course.changes
          (stored-cleaned S S.cleaned course.changes (omega arith) all (changes-rows M.world now (Do request)))
      | inr is ↦ subst (λ r. AllLeave (λ V. Cleans S V.store) (course_of M.world now r).changes) (sym is) (inr (last-clean (clean_upto M.world) S o.store (clean-within M.world)), tt)
    ])
step-Cleans M k now (Read worker max index) o = subst (λ (V : World). Cleans M.world.store V.store) (sym (read-world M worker max index (serving M.world.slots index))) (inl (omega arith))
step-Cleans M k now (Publish worker) o = subst (Cleans M.world.store) (sym (publish-store M worker (held_by M.held worker))) (inl (omega arith))

-- WHAT IS LOST

run-cleaned : (es : List Event) (M : Machine) → IsMachine M → AreFromClients es → M.world.store.cleaned ≤ (run es M).world.store.cleaned
run-cleaned es M i from = let m = run-Steps es M from i in let l = m.later.store in l.cleaned

pub run-last : (es : List Event) (M : Machine) → IsMachine M → AreFromClients es → last M.world.store ≤ last (run es M).world.store
run-last es M i from = let m = run-Steps es M from i in let l = m.later.store in l.grown

-- in one step only a tombstone goes
step-kept : (M : Machine) (e : Event) (q : List ℕ) (r : Row) → IsMachine M → IsFromClient e.line → row_at q M.world.store.rows ≡ Some r
    → StillHas (after M e).world.store.rows q r ⊎ ((is_document r ≡ false) × (r.etag ≤ (after M e).world.store.cleaned))
step-kept M e q r i from h =
    let one = step-Steps M e.keeping e.now e.line from i in
    let l = one.later.store in
    let next = one.machine.world.store in
    elim (l.kept q r h) [
      | inl k ↦ inl k
      | inr c ↦ inr (
        elim c.deleted [
          | inl gone ↦ gone
          | inr far ↦ absurd (elim (step-Cleans M e.keeping e.now e.line i.world) [
            | inl le ↦ (let a = c.more in omega arith)
            | inr same ↦ (let b = next.behind in omega arith)
          ])
        ],
        c.reached,
      )
    ]

pub run-kept : (es : List Event) (M : Machine) (q : List ℕ) (r : Row) → IsMachine M → AreFromClients es → row_at q M.world.store.rows ≡ Some r
    → StillHas (run es M).world.store.rows q r ⊎ WasDeleted M es q
run-kept [] M q r i from h = inl (StillHas-itself M.world.store.rows q r h)
run-kept (e ∷ es) M q r i from h =
    let one = step-Steps M e.keeping e.now e.line from.0 i in
    elim (step-kept M e q r i from.0 h) [
      | inl k ↦ elim (run-kept es (after M e) q k.row one.machine from.1 k.found) [
        | inl s ↦ inl (StillHas-then (run es (after M e)).world.store.rows q r k.row k.same k.spelled k.no_older s)
        | inr w ↦ inr (record { before = e ∷ w.before; more = w.more; split = ap (λ l. e ∷ l) w.split; tombstone = w.tombstone; there = w.there; deleted = w.deleted; cleaned = w.cleaned })
      ]
      | inr g ↦ inr (record {
        before = [];
        more = e ∷ es;
        split = refl;
        tombstone = r;
        there = h;
        deleted = g.0;
        cleaned = let a = g.1 in let b = run-cleaned es (after M e) one.machine from.1 in omega arith;
      })
    ]
