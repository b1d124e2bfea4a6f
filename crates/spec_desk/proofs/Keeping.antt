-- The keeper holds the rows of the world while changes are made.
use Rattle.std.proofs.Common.{◌≡◌, ℕ, List, [], ◌∷◌, Bool, true, false, cond, ◌||◌, Option, Some, None, option_map, IfSome, refl, sym, ap, ◌∙◌, subst}
use Rattle.std.specs.List.{list_any}
use Rattle.spec_data.specs.Kept.{KeptRow, EtagsRise, all_kept, keep_all, last_kept}
use Rattle.spec_data.specs.Rows.{Row}
use Rattle.spec_index.specs.World.{World}
use Rattle.spec_store.specs.Cleaning.{clean, cleared, is_old_tombstone, kept_by, old_tombstones, without_tombstones}
use Rattle.spec_store.specs.Commit.{AreNext}
use Rattle.spec_store.specs.Store.{Store, last, with_rows}
use Rattle.spec_store.proofs.KeepLemmas.{kept-clean, kept-with_rows, next-alone, next-behind}
use Rattle.spec_server.specs.Courses.{Change, is_taken}
use Rattle.spec_server.specs.Machine.{machine_of}
use Rattle.spec_server.specs.Sound.{IsMachine, Sound}
use Rattle.raven_ports.specs.Asking.{Asked}
use Rattle.raven_ports.specs.States.{KeeperState}
use Rattle.raven_laws.specs.Keeping.{IsDone, IsItsRows}
use Rattle.spec_desk.specs.Keepers.{IsKept, Keeps, task}

-- THE ROWS OF A CHANGE ARE IN ORDER AFTER WHAT THE KEEPER HOLDS

pub rising : (S : Store) (rows : List Row) → AreNext (last S) rows → EtagsRise None (all_kept rows)
rising S rows next = next-alone (last S) rows next

past_held : (held : Option (List KeptRow)) (S : Store) (rows : List Row) → IfSome held (λ all. all ≡ all_kept S.rows) → EtagsRise (last_kept None (all_kept S.rows)) (all_kept rows)
    → IfSome held (λ all. EtagsRise (last_kept None all) (all_kept rows))
past_held None S rows h up = tt
past_held (Some all) S rows h up = subst (λ x. EtagsRise (last_kept None x) (all_kept rows)) (sym h) up

pub past : (held : Option (List KeptRow)) (W : World) (rows : List Row) → Keeps held (machine_of W) → AreNext (last W.store) rows
    → IfSome held (λ all. EtagsRise (last_kept None all) (all_kept rows))
past held W rows k next = past_held held W.store rows k.holds (next-behind W.store rows next)

-- AND IT HOLDS THEM AFTERWARDS

abbrev with_kept : List Row → Option ℕ → Option (List KeptRow) → Option (List KeptRow)
with_kept rows cleans held = option_map (kept_by rows cleans) held

with_none : (held : Option (List KeptRow)) → with_kept [] None held ≡ held
with_none None = refl
with_none (Some all) = refl

-- it holds what it took
taken_held : (before after : KeeperState) (r : Row) (rows : List Row) (cleans : Option ℕ) (takes : List Bool) → Asked before after takes (task (r ∷ rows) cleans ∷ []) → is_taken takes (r ∷ rows) ≡ true
    → after.held ≡ with_kept (r ∷ rows) cleans before.held
taken_held before after r rows cleans [] asked is = absurd asked
taken_held before after r rows cleans (true ∷ takes) asked is = ap (λ (x : KeeperState). x.held) asked.2.1 ∙ asked.1.kept refl
taken_held before after r rows cleans (false ∷ takes) asked is = absurd cc

abbrev HoldsStore : Option (List KeptRow) → Store → Type 0
HoldsStore held S = IfSome held (λ all. all ≡ all_kept S.rows)

holds_more : (held : Option (List KeptRow)) (S : Store) (rows : List Row) → HoldsStore held S → HoldsStore (with_kept rows None held) (with_rows S rows)
holds_more None S rows h = tt
holds_more (Some all) S rows h = ap (λ x. keep_all x (all_kept rows)) h ∙ kept-with_rows S rows

holds_less : (held : Option (List KeptRow)) (S : Store) (rows : List Row) (upto : ℕ) → HoldsStore held S → HoldsStore (with_kept rows (Some upto) held) (clean upto S)
holds_less None S rows upto h = tt
holds_less (Some all) S rows upto h = ap (cleared upto) h ∙ kept-clean upto S

-- if no tombstone goes, the store stays
none_goes : (upto : ℕ) (S : Store) → old_tombstones upto S.rows ≡ [] → clean upto S ≡ S
none_goes upto S none = ap (λ b. cond b (record { rows = without_tombstones upto S.rows; cleaned = upto }) S) (none_any S.rows none)
  where
    none_any : (rows : List Row) → old_tombstones upto rows ≡ [] → list_any (is_old_tombstone upto) rows ≡ false
    none_any [] h = refl
    none_any (x ∷ rows) h = elim (is_old_tombstone upto x) as (λ b. cond b (x ∷ old_tombstones upto rows) (old_tombstones upto rows) ≡ [] → b || list_any (is_old_tombstone upto) rows ≡ false) [
      | true ↦ λ e. absurd cc
      | false ↦ λ e. none_any rows e
    ] h

-- after the change that does what it asks of the keeper
holds_done : (before after : KeeperState) (S : Store) (c : Change) (rows : List Row) (cleans : Option ℕ) (takes : List Bool) → rows ≡ c.rows → IsDone S c cleans
    → Asked before after takes (task rows cleans ∷ []) → is_taken takes rows ≡ true → HoldsStore before.held S → HoldsStore after.held c.world.store
holds_done before after S c [] None takes e d asked is h =
    subst (HoldsStore after.held) (sym (d.store ∙ ap (with_rows S) (sym e))) (subst (λ (x : KeeperState). HoldsStore x.held S) (sym asked.1) h)
holds_done before after S c [] (Some upto) takes e d asked is h =
    subst (HoldsStore after.held) (sym (d.store ∙ none_goes upto S (sym d.rows ∙ sym e))) (subst (λ (x : KeeperState). HoldsStore x.held S) (sym asked.1) h)
holds_done before after S c (r ∷ rows) None takes e d asked is h =
    subst (HoldsStore after.held) (sym (d.store ∙ ap (with_rows S) (sym e)))
    (subst (λ held. HoldsStore held (with_rows S (r ∷ rows))) (sym (taken_held before after r rows None takes asked is)) (holds_more before.held S (r ∷ rows) h))
holds_done before after S c (r ∷ rows) (Some upto) takes e d asked is h =
    subst (HoldsStore after.held) (sym d.store)
    (subst (λ held. HoldsStore held (clean upto S)) (sym (taken_held before after r rows (Some upto) takes asked is)) (holds_less before.held S (r ∷ rows) upto h))

pub idle : (W : World) → Sound W → IsMachine (machine_of W)
idle W sound = record { world = sound; held = λ h has. absurd has }

pub keeps_taken : (before after : KeeperState) (W : World) (c : Change) → Keeps before.held (machine_of W) → IsItsRows W.store c → Sound c.world → IsKept before after c.rows c.cleans true
    → Keeps after.held (machine_of c.world)
keeps_taken before after W c k done sound taken = record { sound = idle c.world sound; holds = holds_done before after W.store c c.rows c.cleans taken.takes refl done taken.asked taken.taken_is k.holds }

-- a keeper that did not take the rows holds what it held
pub failed_held : (before after : KeeperState) (rows : List Row) (cleans : Option ℕ) → IsKept before after rows cleans false → after.held ≡ before.held
failed_held before after rows cleans k = by rows k.takes k.asked k.taken_is
  where
    by : (rows : List Row) (takes : List Bool) → Asked before after takes (task rows cleans ∷ []) → is_taken takes rows ≡ false → after.held ≡ before.held
    by [] takes asked is = absurd cc
    by (r ∷ rows) [] asked is = absurd asked
    by (r ∷ rows) (true ∷ takes) asked is = absurd cc
    by (r ∷ rows) (false ∷ takes) asked is = (asked.1.failed refl).0

-- it held them, and holds what it held
pub keeps_same : (held after : Option (List KeptRow)) (W : World) → after ≡ held → Keeps held (machine_of W) → Keeps after (machine_of W)
keeps_same held after W e k = subst (λ h. Keeps h (machine_of W)) (sym e) k
