-- What asking a keeper does.
use Rattle.std.proofs.Common.{◌≡◌, ◌≢◌, ℕ, List, [], ◌∷◌, Bool, true, false, Option, Some, None, option_map, IfNone, IfSome, OnOk, Result, refl, sym, ap, ◌∙◌, subst}
use Rattle.spec_data.specs.Kept.{EtagsRise, KeptRow, all_kept, keep_all, last_kept}
use Rattle.spec_data.specs.Rows.{Row}
use Rattle.spec_index.specs.World.{World}
use Rattle.spec_store.specs.Cleaning.{cleared, kept_by}
use Rattle.spec_server.specs.Courses.{Change}
use Rattle.raven_ports.specs.Asking.{AskedOnce}
use Rattle.raven_ports.specs.States.{KeeperState}
use Rattle.spec_desk.specs.Keepers.{IsKept}
use Rattle.raven_desk.specs.AsksView.{IsAskedFor, cleans_in}
use Rattle.raven_desk.specs.declared.course.Asks.{Asks}
use Rattle.raven_desk.specs.declared.course.Asks.TheVariants.{Store, Clean}

-- WHAT IS ASKED, of a change that is seen as x

abbrev pub shown : List Row → Asks → World → Change
shown rows asks W = record { rows = rows; cleans = cleans_in asks; world = W }

-- it is to store these rows, which are those of the change
record Stores (rows : List Row) (kept : List KeptRow) (x : Change) : Type 0 where
  kept_is : kept ≡ all_kept x.rows
  stores : x.cleans ≡ None

stores_these : (rows : List Row) (asks : Asks) (W : World) (x : Change) (kept : List KeptRow) → shown rows asks W ≡ x → IsAskedFor rows asks → asks ≡ Store kept → Stores rows kept x
stores_these rows (Store other) W x kept is own e =
    let same : other ≡ kept = cc in
    record { kept_is = sym same ∙ own ∙ ap (λ (c : Change). all_kept c.rows) is; stores = sym (ap (λ (c : Change). c.cleans) is) }
stores_these rows (Clean upto) W x kept is own e = absurd cc

cleans_upto : (rows : List Row) (asks : Asks) (W : World) (x : Change) (upto : ℕ) → shown rows asks W ≡ x → asks ≡ Clean upto → x.cleans ≡ Some upto
cleans_upto rows asks W x upto is e = sym (ap (λ (c : Change). c.cleans) is) ∙ ap cleans_in e

pub may_rise : (rows : List Row) (asks : Asks) (W : World) (x : Change) (kept : List KeptRow) → shown rows asks W ≡ x → IsAskedFor rows asks → asks ≡ Store kept
    → IfNone x.cleans (EtagsRise None (all_kept x.rows)) → EtagsRise None kept
may_rise rows asks W x kept is own e up =
    let s = stores_these rows asks W x kept is own e in
    subst (EtagsRise None) (sym s.kept_is) (subst (λ (o : Option ℕ). IfNone o (EtagsRise None (all_kept x.rows))) s.stores up)

pub may_follow : (rows : List Row) (asks : Asks) (W : World) (x : Change) (kept : List KeptRow) (held : Option (List KeptRow)) → shown rows asks W ≡ x → IsAskedFor rows asks → asks ≡ Store kept
    → IfNone x.cleans (IfSome held (λ all. EtagsRise (last_kept None all) (all_kept x.rows))) → IfSome held (λ all. EtagsRise (last_kept None all) kept)
may_follow rows asks W x kept held is own e up =
    let s = stores_these rows asks W x kept is own e in
    subst (λ (l : List KeptRow). IfSome held (λ all. EtagsRise (last_kept None all) l)) (sym s.kept_is)
    (subst (λ (o : Option ℕ). IfNone o (IfSome held (λ all. EtagsRise (last_kept None all) (all_kept x.rows)))) s.stores up)

-- and what it then holds
pub has_stored : {T E : Type 0} (r : Result T E) (rows : List Row) (asks : Asks) (W : World) (x : Change) (kept : List KeptRow) (before after : Option (List KeptRow)) → shown rows asks W ≡ x
    → IsAskedFor rows asks → asks ≡ Store kept → OnOk r (after ≡ option_map (λ all. keep_all all kept) before) → OnOk r (after ≡ option_map (kept_by x.rows x.cleans) before)
has_stored r rows asks W x kept before after is own e h =
    let s = stores_these rows asks W x kept is own e in
    subst (λ (o : Option ℕ). OnOk r (after ≡ option_map (kept_by x.rows o) before)) (sym s.stores)
    (subst (λ (l : List KeptRow). OnOk r (after ≡ option_map (λ all. keep_all all l) before)) s.kept_is h)

pub has_cleaned : {T E : Type 0} (r : Result T E) (rows : List Row) (asks : Asks) (W : World) (x : Change) (upto : ℕ) (before after : Option (List KeptRow)) → shown rows asks W ≡ x
    → asks ≡ Clean upto → OnOk r (after ≡ option_map (cleared upto) before) → OnOk r (after ≡ option_map (kept_by x.rows x.cleans) before)
has_cleaned r rows asks W x upto before after is e h =
    subst (λ (o : Option ℕ). OnOk r (after ≡ option_map (kept_by x.rows o) before)) (sym (cleans_upto rows asks W x upto is e)) h

pub ruleset answering = (may_rise, may_follow, has_stored, has_cleaned)

-- WHETHER IT DID IT

pub not_asked : (before after : KeeperState) (rows : List Row) (cleans : Option ℕ) → rows ≡ [] → after ≡ before → IsKept before after rows cleans true
not_asked before after [] cleans e s = record { takes = []; asked = (refl, s); taken_is = refl }
not_asked before after (r ∷ rows) cleans e s = absurd cc

pub asked_once : (before after : KeeperState) (taken : Bool) (rows : List Row) (cleans : Option ℕ) → rows ≢ [] → AskedOnce before after taken rows cleans → IsKept before after rows cleans taken
asked_once before after taken [] cleans n a = absurd (n refl)
asked_once before after true (r ∷ rows) cleans n a = record { takes = true ∷ []; asked = (after, a, (refl, refl)); taken_is = refl }
asked_once before after false (r ∷ rows) cleans n a = record { takes = false ∷ []; asked = (refl, a); taken_is = refl }

pub ruleset asking = (not_asked, asked_once)
