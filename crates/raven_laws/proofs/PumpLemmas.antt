-- What a batch moves, and what it leaves.
use Rattle.std.proofs.Common.{◌≡◌, ℕ, zero, suc, ◌≤◌, List, [], ◌∷◌, length, take, Bool, true, false, cond, ◌&&◌, ◌||◌, nat_lt, Some, None, filter, refl, sym, ap, ◌∙◌, subst, arith, ◌↔◌}
use Rattle.std.specs.List.{list_any}
use Rattle.std.proofs.lemmas.Bool.{ltb-true}
use Rattle.std.proofs.lemmas.List.{drop_all}
use Rattle.spec_data.specs.Rows.{Row, key}
use Rattle.spec_store.specs.Store.{row_at, Store, last, IsStore}
use Rattle.spec_data.specs.Tables.{Scope, in_scope}
use Rattle.spec_store.specs.Stale.{past, batch_rows, left_over, stale}
use Rattle.spec_index.specs.Index.{etag_after, etag_of_batch}
use Rattle.spec_index.specs.World.{Version, Slot, reads, advanced}
use Rattle.spec_server.specs.Requests.{Do, Event, AreFromClients, Pump, takes_all}
use Rattle.spec_server.specs.Batches.{or_as_before, after_batch, pumping}
use Rattle.spec_server.specs.Answers.{is_stale}
use Rattle.spec_server.specs.Machine.{start, step, run}
use Rattle.spec_store.specs.Commit.{Setting}
use Rattle.spec_server.specs.Sound.{Has}
use Rattle.spec_store.proofs.StoreLemmas.{either_false, same_itself, found_etag}
use Rattle.raven_laws.proofs.IndexLemmas.{Taken, Taken-batch}
use Rattle.spec_store.proofs.StaleLemmas.{seen-fresh}
use Rattle.raven_laws.proofs.LimitLemmas.{length_filtered}
use Rattle.raven_laws.proofs.SlotLemmas.{Has-map}
use Rattle.raven_laws.proofs.MachineLemmas.{run-Sound}

-- WHAT IS LEFT TO TAKE

and_true : (b : Bool) → b && true ≡ b
and_true true = refl
and_true false = refl

stale_past : (S : Store) (scope : Scope) (e : ℕ) → stale S scope e None ≡ list_any (λ r. in_scope scope r && nat_lt e r.etag) S.rows
stale_past S scope e = λ i. list_any (λ r. and_true (in_scope scope r && nat_lt e r.etag) i) S.rows

none_left : (p : Row → Bool) (rows : List Row) → list_any p rows ≡ false → filter p rows ≡ []
none_left p [] h = refl
none_left p (x ∷ rows) h =
    let f = either_false (p x) (list_any p rows) h in
    ap (λ b. cond b (x ∷ filter p rows) (filter p rows)) f.0 ∙ none_left p rows f.1

none_any : (p : Row → Bool) (rows : List Row) → filter p rows ≡ [] → list_any p rows ≡ false
none_any p [] h = refl
none_any p (x ∷ rows) h = elim (p x) as (λ b. cond b (x ∷ filter p rows) (filter p rows) ≡ [] → b || list_any p rows ≡ false) [
  | true ↦ λ g. absurd cc
  | false ↦ λ g. none_any p rows g
] h

taken_none : (max : ℕ) (rows : List Row) → 1 ≤ max → take max rows ≡ [] → rows ≡ []
taken_none zero rows some h = absurd (omega arith)
taken_none (suc max) [] some h = refl
taken_none (suc max) (x ∷ rows) some h = absurd cc

take_none : (max : ℕ) → (let xs : List Row = [] in take max xs) ≡ []
take_none zero = refl
take_none (suc max) = refl

-- if a batch takes nothing, the index is not stale
nothing_taken : (S : Store) (scope : Scope) (e max : ℕ) → 1 ≤ max → batch_rows scope e S max ≡ [] → stale S scope e None ≡ false
nothing_taken S scope e max some h = stale_past S scope e ∙ none_any (λ r. in_scope scope r && nat_lt e r.etag) S.rows (taken_none max (past scope e S) some h)

takes_nothing : (S : Store) (scope : Scope) (e max : ℕ) → stale S scope e None ≡ false → batch_rows scope e S max ≡ []
takes_nothing S scope e max h =
    ap (take max) (none_left (λ r. in_scope scope r && nat_lt e r.etag) S.rows (sym (stale_past S scope e) ∙ h)) ∙ take_none max

-- AN INDEX MOVES EXACTLY IF IT IS STALE

pub stays-fresh : (S : Store) (s : Slot) (max : ℕ) → IsStore S → s.version.etag ≤ last S → 1 ≤ max → ((pumping S max s).to ≡ (pumping S max s).from) ↔ (is_stale S s ≡ false)
stays-fresh S s max o within some =
    elim (batch_rows (reads v) v.etag S max) as (λ tk. batch_rows (reads v) v.etag S max ≡ tk → ((or_as_before v (advanced v tk new S.cleaned)).etag ≡ v.etag) ↔ (is_stale S s ≡ false)) [
      | [] ↦ λ e. (λ _. nothing_taken S (reads v) v.etag max some e, λ _. refl)
      | r ∷ rows ↦ λ e. (
        λ same. absurd (let f = t.from (key r) r (subst (λ tk. row_at (key r) tk ≡ Some r) (sym e) (first r rows)) in let a = ltb-true v.etag r.etag f.2 in let b = f.3 in omega arith),
        λ fresh. absurd (let f = sym e ∙ takes_nothing S (reads v) v.etag max fresh in cc),
      )
    ] refl
  where
    v : Version
    v = s.version

    new : ℕ
    new = etag_of_batch (reads v) v.etag S max

    t : Taken (reads v) S v.etag (batch_rows (reads v) v.etag S max) new
    t = Taken-batch (reads v) S v.etag max o within

    first : (r : Row) (rows : List Row) → row_at (key r) (r ∷ rows) ≡ Some r
    first r rows = ap (λ b. cond b (Some r) (row_at (key r) rows)) (same_itself (key r))

-- A BATCH THAT TAKES ALL LEAVES NOTHING UNSEEN

pub all-fresh : (S : Store) (s : Slot) (max : ℕ) → IsStore S → 1 ≤ max → length S.rows ≤ max → is_stale S (after_batch S max s) ≡ false
all-fresh S s max o some most =
    elim (batch_rows (reads v) v.etag S max) as (λ tk. batch_rows (reads v) v.etag S max ≡ tk → let w = or_as_before v (advanced v tk (etag_of_batch (reads v) v.etag S max) S.cleaned) in stale S (reads w) w.etag None ≡ false) [
      | [] ↦ λ e. nothing_taken S (reads v) v.etag max some e
      | r ∷ rows ↦ λ e. seen-fresh S (reads v) (etag_of_batch (reads v) v.etag S max) None o (λ u.
          let a = (found_etag 0 u.id S.rows u.row o.rising u.found).1 in
          let b = u.past in
          let c = ap (λ lo. etag_after v.etag (batch_rows (reads v) v.etag S max) lo (last S)) nothing_left in omega arith)
    ] refl
  where
    v : Version
    v = s.version

    nothing_left : left_over (reads v) v.etag S max ≡ []
    nothing_left = drop_all max (past (reads v) v.etag S) (let a = length_filtered (λ r. in_scope (reads v) r && nat_lt v.etag r.etag) S.rows in omega arith)

-- AFTER A RUN

pub run-moves : (setting : Setting) (events : List Event) (s : Slot) (max : ℕ) → AreFromClients events → 1 ≤ max → let W = (run events (start setting)).world in Has W.slots s
    → ((pumping W.store max s).to ≡ (pumping W.store max s).from) ↔ (is_stale W.store s ≡ false)
run-moves setting events s max from some h =
    let o = run-Sound setting events from in
    let f = o.fits s h in stays-fresh (run events (start setting)).world.store s max o.store f.within some

pub run-all : (setting : Setting) (events : List Event) (s : Slot) (max : ℕ) → AreFromClients events → 1 ≤ max
    → let M = run events (start setting) in let N = (step M takes_all 0 (Do (Pump max None))).machine in
    length M.world.store.rows ≤ max → Has N.world.slots s → is_stale N.world.store s ≡ false
run-all setting events s max from some most h =
    let M = run events (start setting) in
    let o = run-Sound setting events from in
    let x = Has-map (after_batch M.world.store max) M.world.slots s h in
    subst (λ (y : Slot). is_stale M.world.store y ≡ false) x.2 (all-fresh M.world.store x.0 max o.store some most)
