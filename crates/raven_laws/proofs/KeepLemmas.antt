-- What a keeper stores is the rows of the store.
use Rattle.std.proofs.Common.{◌≡◌, ℕ, ◌+◌, List, [], ◌∷◌, Bool, true, false, cond, Option, Some, None, Ok, refl, sym, ap, ◌∙◌, subst}
use Rattle.std.specs.Option.{option_map}
use Rattle.spec_data.specs.Folding.{folded}
use Rattle.spec_data.specs.Rows.{Row}
use Rattle.spec_data.specs.Kept.{all_kept}
use Rattle.spec_store.specs.Store.{Store, last, with_row, with_rows}
use Rattle.spec_store.specs.Cleaning.{kept_by}
use Rattle.spec_store.specs.Commit.{AreNext, Client, Command, Put, Delete, Server, Setting, Writer, Written, commit, commit_from, document_at, refusal_of, row_of, tombstone, or_refused, with_written}
use Rattle.spec_server.specs.Replies as replies
use Rattle.spec_index.specs.World.{World, serving}
use Rattle.spec_server.specs.Requests.{Request, Line, Do, Read, Publish, Event, Keeping, commands_in}
use Rattle.spec_server.specs.Courses.{Machine, Change, is_taken, made, same_machine, takes_after, with_world}
use Rattle.spec_server.specs.Workers.{held_by}
use Rattle.spec_server.specs.Machine.{after, changes_of, course_of, run, step}
use Rattle.spec_server.specs.Script.{Given, after_lines, events_of}
use Rattle.raven_laws.proofs.Acts.{AllDo, IsAct, all-acts, all-weaker, course-acts}
use Rattle.raven_laws.proofs.MachineLemmas.{publish-store, read-world}
use Rattle.raven_laws.proofs.Moving.{clean-within}
use Rattle.raven_laws.proofs.ScriptLemmas.{lines-run}
use Rattle.raven_laws.specs.Keeping.{AreTheirRows, IsDone, IsItsRows, changes_made, kept_after_all, stored_after}
use Rattle.spec_store.proofs.StoreLemmas.{same_row}
use Rattle.spec_store.proofs.CommitLemmas.{same_ok, with_rows-push, AreNext-push, last-with_rows}
use Rattle.spec_store.proofs.KeepLemmas.{kept-with_rows, kept-clean}

-- TRANSACTIONS

-- what was written so far: the old store with further rows, whose etags go on from its last
record Adds (S : Store) (w : Written) : Type 0 where
  pub store : w.store ≡ with_rows S w.rows
  pub next : AreNext (last S) w.rows

-- a row that is written has the next etag
pub next_etag : (now : ℕ) (S : Store) (c : Command) (r : Row) → row_of now S c ≡ Some r → r.etag ≡ last S + 1
next_etag now S (Put id expected body) r is = ap (λ (x : Row). x.etag) (sym (same_row _ r is))
next_etag now S (Delete id expected) r is =
    elim (document_at S (folded id)) as (λ o. option_map (tombstone (last S + 1) now) o ≡ Some r → r.etag ≡ last S + 1) [
      | None ↦ λ g. absurd cc
      | Some d ↦ λ g. ap (λ (x : Row). x.etag) (sym (same_row _ r g))
    ] is

Adds-row : (S : Store) (done : Written) (r : Row) → Adds S done → r.etag ≡ last done.store + 1 → Adds S (with_written (Some r) done)
Adds-row S done r a is = record {
  store = ap (λ T. with_row T r) a.store ∙ sym (with_rows-push S done.rows r);
  next = AreNext-push (last S) done.rows r a.next (is ∙ ap (λ n. n + 1) (ap last a.store ∙ last-with_rows S done.rows));
}

Adds-option : (S : Store) (done : Written) (o : Option Row) → Adds S done → ((r : Row) → o ≡ Some r → r.etag ≡ last done.store + 1) → Adds S (with_written o done)
Adds-option S done None a is = a
Adds-option S done (Some r) a is = Adds-row S done r a (is r refl)

commit_from-Adds : (S : Store) (at : ℕ) (s : Setting) (w : Writer) (now : ℕ) (cs : List Command) (done new : Written)
    → Adds S done → commit_from at s w now cs done ≡ Ok new → Adds S new
commit_from-Adds S at s w now [] done new a h = subst (Adds S) (same_ok done new h) a
commit_from-Adds S at s w now (c ∷ cs) done new a h =
    elim (refusal_of s w done.store c) as (λ o. or_refused o at (commit_from (at + 1) s w now cs (with_written (row_of now done.store c) done)) ≡ Ok new → Adds S new) [
      | None ↦ λ g. commit_from-Adds S (at + 1) s w now cs (with_written (row_of now done.store c) done) new
          (Adds-option S done (row_of now done.store c) a (λ r is. next_etag now done.store c r is)) g
      | Some kind ↦ λ g. absurd cc
    ] h

commit-Adds : (s : Setting) (w : Writer) (now : ℕ) (cs : List Command) (S : Store) (new : Written) → commit s w now cs S ≡ Ok new → Adds S new
commit-Adds s w now cs S new is = commit_from-Adds S 0 s w now cs (record { store = S; rows = [] }) new (record { store = refl; next = tt }) is

-- CHANGES

-- what a change is tells what it does to the store
act-rows : (now : ℕ) (r : Request) (W : World) (c : Change) → IsAct now r W c → IsItsRows W.store c
act-rows now r W c (IsAct.writes w is e) =
    let a = commit-Adds W.setting Client now (commands_in r) W.store w is in subst (IsItsRows W.store) (sym e) (record { store = a.store; next = a.next })
act-rows now r W c (IsAct.reslots a) =
    let b = commit-Adds W.setting Server now a.slots.commands W.store a.written a.commits in subst (IsItsRows W.store) (sym a.is) (record { store = b.store; next = b.next })
act-rows now r W c (IsAct.advances max chosen e) = subst (IsItsRows W.store) (sym e) (record { store = refl; next = tt })
act-rows now r W c (IsAct.cleans is e) = subst (IsItsRows W.store) (sym e) (record { store = refl; rows = refl; below = clean-within W })

all-rows : (W : World) (changes : List Change) → AllDo (λ V c. IsItsRows V.store c) W changes → AreTheirRows W.store changes
all-rows W [] all = tt
all-rows W (c ∷ more) all = (all.0, all-rows c.world more all.1)

course-rows : (W : World) (now : ℕ) (request : Request) → AreTheirRows W.store (course_of W now request).changes
course-rows W now request =
    let cs = (course_of W now request).changes in
    all-rows W cs (all-weaker (IsAct now request) (λ V c. IsItsRows V.store c) (act-rows now request) W cs (all-acts now request W cs (course-acts W now request)))

pub changes-rows : (W : World) (now : ℕ) (line : Line) → AreTheirRows W.store (changes_of W now line)
changes-rows W now (Do request) = course-rows W now request
changes-rows W now (Read worker max index) = tt
changes-rows W now (Publish worker) = tt

-- EVENTS

-- after a change the keeper stores the rows of its store
one-held : (S : Store) (c : Change) (o : Option ℕ) → IsDone S c o → kept_by c.rows o (all_kept S.rows) ≡ all_kept c.world.store.rows
one-held S c None a = kept-with_rows S c.rows ∙ ap (λ (T : Store). all_kept T.rows) (sym a.store)
one-held S c (Some upto) a = kept-clean upto S ∙ ap (λ (T : Store). all_kept T.rows) (sym a.store)

-- after changes the keeper stores the rows of the store that they leave
made-held : (k : Keeping) (M : Machine) (takes : List Bool) (changes : List Change) (reply : replies.Reply) → AreTheirRows M.world.store changes
    → kept_after_all (changes_made takes changes) (all_kept M.world.store.rows) ≡ all_kept (made k M takes changes reply).machine.world.store.rows
made-held k M takes [] reply a = refl
made-held k M takes (c ∷ more) reply a =
    let N = with_world M c.world in
    let later = takes_after c.rows takes in
    let one = one-held M.world.store c c.cleans a.0 in
    let rest = made-held k N later more reply a.1 in
    elim (is_taken takes c.rows) as (λ b. kept_after_all (cond b (c ∷ changes_made later more) []) (all_kept M.world.store.rows)
    ≡ all_kept (cond b (made k N later more reply) (same_machine M (replies.KeeperFault k.before k.after))).machine.world.store.rows) [
      | true ↦ ap (kept_after_all (changes_made later more)) one ∙ rest
      | false ↦ refl
    ]

step-held : (M : Machine) (k : Keeping) (now : ℕ) (line : Line)
    → kept_after_all (changes_made k.takes (changes_of M.world now line)) (all_kept M.world.store.rows) ≡ all_kept (step M k now line).machine.world.store.rows
step-held M k now (Do request) = let c = course_of M.world now request in made-held k M k.takes c.changes c.reply (course-rows M.world now request)
step-held M k now (Read worker max index) = ap (λ (W : World). all_kept W.store.rows) (sym (read-world M worker max index (serving M.world.slots index)))
step-held M k now (Publish worker) = ap (λ (S : Store). all_kept S.rows) (sym (publish-store M worker (held_by M.held worker)))

pub held-run : (M : Machine) (es : List Event) → stored_after es M (all_kept M.world.store.rows) ≡ all_kept (run es M).world.store.rows
held-run M [] = refl
held-run M (e ∷ es) = ap (stored_after es (after M e)) (step-held M e.keeping e.now e.line) ∙ held-run (after M e) es

pub held-lines : (M : Machine) (lines : List Given) → stored_after (events_of lines) M (all_kept M.world.store.rows) ≡ all_kept (after_lines lines M).world.store.rows
held-lines M lines = held-run M (events_of lines) ∙ ap (λ (N : Machine). all_kept N.world.store.rows) (sym (lines-run lines M))
