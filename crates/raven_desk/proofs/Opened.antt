-- Opening from what a keeper holds.
use Rattle.std.proofs.Common.{◌≡◌, ℕ, ◌<◌, ◌≤◌, ◌^◌, List, Option, Some, None, IfSome, Result, Ok, Err, refl, sym, ap, ◌∙◌, subst, arith}
use Rattle.spec_data.specs.Kept.{KeptRow, all_kept}
use Rattle.spec_data.specs.Rows.{Row}
use Rattle.spec_store.specs.Commit.{Setting}
use Rattle.spec_store.specs.Kept.{rows_in}
use Rattle.spec_server.specs.Courses.{Machine}
use Rattle.index_lang.specs.Openings.{EndsAt, IsOpened, IsOpenedBy, OpensAs}
use Rattle.spec_server.specs.Options.{setting_with}
use Rattle.spec_store.specs.Limits.{base_id, program}
use Rattle.doc_txn.specs.SettingView.{setting_of}
use Rattle.doc_txn.specs.declared.limits.Limits.{Limits}
use Rattle.doc_keeper.specs.Loading.{AreCalls, IsLoaded}
use Rattle.raven_laws.proofs.OpenLemmas.{opened_from-IsMachine, opened_from-rows}
use Rattle.raven_reading.proofs.TextLemmas.{opened-told}
use Rattle.raven_ports.specs.States.{KeeperState}
use Rattle.spec_desk.specs.Keepers.{Keeps}
use Rattle.raven_desk.specs.Openings.{IsBad, Loads, Opens}

-- THE LIMITS OF THE PROGRAM

pub limits_are : (base : List ℕ) (limits : Limits) → setting_of base_id limits ≡ program → setting_of base limits ≡ setting_with base
limits_are base limits h = ap (λ (s : Setting). (let x : Setting = record { base = base; max_rows = s.max_rows; max_slots = s.max_slots; max_notes = s.max_notes } in x)) h

-- THE DATABASE

back : (held : Option (List KeptRow)) (given : List KeptRow) → IfSome held (λ all. given ≡ all) → IfSome held (λ all. all ≡ given)
back None given h = tt
back (Some all) given h = sym h

-- what opens the rows opens what is held
held_opens : (s : Setting) (held : List KeptRow) (read : Result (List Row) ℕ) (M : Result Machine ℕ) → rows_in s.max_rows held ≡ read → IsOpenedBy s read M → IsOpened s held M
held_opens s held read M is h = subst (λ t. IsOpenedBy s t M) (sym is) h

-- if the rows are those of the keeper and the world is theirs
pub opens : (base : List ℕ) (limits : Limits) (held : Option (List KeptRow)) (rows : List Row) (M : Machine) → setting_of base_id limits ≡ program → IsLoaded limits.rows held (Ok rows)
    → OpensAs (setting_of base limits) rows M → Opens (setting_with base) held M
opens base limits held rows M l is e =
    let whole = held_opens (setting_of base limits) is.given (Ok rows) (Ok M) is.rows e in
    record { rows = is.given; whole = back held is.given is.all; opened = subst (λ s. IsOpened s is.given (Ok M)) (limits_are base limits l) whole }

bad_of : (s : Setting) (held : Option (List KeptRow)) (given : List KeptRow) (etag : ℕ) → IfSome held (λ all. given ≡ all) → IsOpened s given (Err etag) → IsBad s held etag
bad_of s None given etag h e = tt
bad_of s (Some all) given etag h e = subst (λ x. IsOpened s x (Err etag)) h e

-- if a row is bad as it is read
pub bad_row : (base : List ℕ) (limits : Limits) (held : Option (List KeptRow)) (etag : ℕ) → setting_of base_id limits ≡ program → IsLoaded limits.rows held (Err etag) → IsBad (setting_with base) held etag
bad_row base limits held etag l is =
    subst (λ s. IsBad s held etag) (limits_are base limits l)
    (bad_of (setting_of base limits) held is.given etag is.all (held_opens (setting_of base limits) is.given (Err etag) (Err etag) is.rows refl))

-- if a row is bad as the row of a definition
pub bad_definition : (base : List ℕ) (limits : Limits) (held : Option (List KeptRow)) (rows : List Row) (etag : ℕ) → setting_of base_id limits ≡ program → IsLoaded limits.rows held (Ok rows)
    → EndsAt (setting_of base limits) rows etag → IsBad (setting_with base) held etag
bad_definition base limits held rows etag l is ends =
    subst (λ s. IsBad s held etag) (limits_are base limits l)
    (bad_of (setting_of base limits) held is.given etag is.all (held_opens (setting_of base limits) is.given (Ok rows) (Err etag) is.rows ends))

-- the keeper holds the rows of the machine that it opens
pub keeps_from : (setting : Setting) (held after : Option (List KeptRow)) (M : Machine) → after ≡ held → Opens setting held M → Keeps after M
keeps_from setting held after M e o =
    let as_read = opened-told setting o.rows M o.opened in
    let is = opened_from-rows setting o.rows M as_read.opened in
    subst (λ h. Keeps h M) (sym e) (record { sound = opened_from-IsMachine setting o.rows M as_read; holds = by held o.whole is.kept })
  where
    by : (held : Option (List KeptRow)) → IfSome held (λ all. all ≡ o.rows) → all_kept M.world.store.rows ≡ o.rows → IfSome held (λ all. all ≡ all_kept M.world.store.rows)
    by None h k = tt
    by (Some all) h k = h ∙ sym k

pub few_rows : (limits : Limits) (n : ℕ) → setting_of base_id limits ≡ program → n ≤ limits.rows → n < 2 ^ 32
few_rows limits n l le = let e : limits.rows ≡ 4000000 = ap (λ (s : Setting). s.max_rows) l in omega arith

pub loads : (before after : KeeperState) → after.held ≡ before.held → AreCalls before.held before.plan after.plan → before.count ≤ after.count → Loads before after
loads before after s c l = record { same = s; called = c; later = l }

pub ruleset opening = (opens, bad_row, bad_definition, keeps_from, few_rows, loads)
