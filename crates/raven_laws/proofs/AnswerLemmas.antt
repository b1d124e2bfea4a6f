-- What is answered after any run.
use Rattle.std.proofs.Common.{◌≡◌, ℕ, List, [], ◌∷◌, Bool, true, false, cond, ◌&&◌, T, Option, Some, None, filter, refl, sym, ap, ◌∙◌, subst, ◌⊎◌, inl, inr}
use Rattle.std.specs.declared.cmp.Ordering.{Ordering}
use Rattle.std.specs.declared.cmp.Ordering.TheVariants.{Less, Equal, Greater}
use Rattle.std.specs.Ordering.{is_lt, eq_by_cmp}
use Rattle.std.specs.List.{filter_map, cons_option}
use Rattle.std.specs.Cmp.Lexicographic.{nat_list_eq_equiv}
use Rattle.std.specs.FinMap.{get, values, entries, find as entry_at, is_sorted, get-entries, entries_sorted}
use Rattle.std.specs.FinMap.Entries.{below_all}
use Rattle.spec_data.specs.Folding.{key_cmp}
use Rattle.spec_data.specs.Rows.{Row}
use Rattle.spec_store.specs.Store.{row_at}
use Rattle.spec_data.specs.Tables.{Table}
use Rattle.spec_index.specs.Index.{documents}
use Rattle.index_tree.specs.Definitions.{Definition}
use Rattle.index_tree.specs.Meaning.{Fields, Outcome, Entry, NoEntry, Failed}
use Rattle.index_tree.specs.Mapper.{mapper_of, is_mapped}
use Rattle.spec_index.specs.Mapping.{mapped_documents, entry_of, scratch}
use Rattle.spec_store.specs.Commit.{Setting}
use Rattle.spec_index.specs.World.{Slot, World, reads, serving}
use Rattle.spec_server.specs.Replies.{Reply}
use Rattle.spec_server.specs.Requests.{Event, AreFromClients}
use Rattle.spec_server.specs.Courses.{Machine}
use Rattle.spec_server.specs.Answers.{answer_find, has_reduce, ids_found, is_stale}
use Rattle.spec_server.specs.Machine.{start, run}
use Rattle.spec_index.specs.Find.{field_is_text, found_in}
use Rattle.spec_server.specs.Sound.{Has, Sound}
use Rattle.raven_laws.specs.Claims.{IsSpelledAsStored, ids_in, find_reply, FreshIsFromScratch, IdsAreSpelledAsStored}
use Rattle.raven_laws.specs.Flags.{FlagsAreExact}
use Rattle.spec_store.proofs.StoreLemmas.{same_itself}
use Rattle.spec_store.proofs.TableLemmas.{tied}
use Rattle.raven_laws.proofs.IndexLemmas.{fresh_whole}
use Rattle.spec_store.proofs.KeyedLemmas.{differ_less}
use Rattle.raven_laws.proofs.SlotLemmas.{Has-filter, Has-map, served, serves}
use Rattle.raven_laws.proofs.MachineLemmas.{run-Sound}
use Rattle.raven_laws.proofs.QueryLemmas.{fresh-query}
use Rattle.raven_laws.proofs.FlagLemmas.{Sound-flags}

-- FRESH ANSWERS

answered : (M : Machine) (index field ws : List ℕ) (s : Slot) → serving M.world.slots index ≡ Some s → find_reply M index field ws ≡ answer_find M.world index field ws (Some s)
answered M index field ws s h = ap (answer_find M.world index field ws) h

pub Sound-fresh : (M : Machine) → Sound M.world → FreshIsFromScratch M
Sound-fresh M o = record { find = find; asked = fresh-query M o }
  where
    find : (index field ws : List ℕ) (s : Slot) → serving M.world.slots index ≡ Some s → is_stale M.world.store s ≡ false
        → find_reply M index field ws ≡ Reply.Found (ids_found s.version.definition (documents (reads s.version) M.world.store) field ws) s.version.etag false
    find index field ws s h is_fresh =
        let f = o.fits s (served M.world.slots index s h).0 in
        answered M index field ws s h
        ∙ ap (λ T. Reply.Found (ids_found s.version.definition T field ws) s.version.etag (is_stale M.world.store s)) (fresh_whole (reads s.version) s.version.table M.world.store s.version.etag o.store f.agrees is_fresh)
        ∙ ap (λ b. Reply.Found (ids_found s.version.definition (documents (reads s.version) M.world.store) field ws) s.version.etag b) is_fresh

-- what has ids has no reduce
pub found-ids : (d : Definition) (T : Table) (field ws id : List ℕ) → Has (ids_found d T field ws) id → (has_reduce d ≡ false) × Has (found_in (mapper_of d) T field ws) id
found-ids d T field ws id h = elim (has_reduce d) as (λ b. has_reduce d ≡ b → Has (cond {A = List (List ℕ)} b [] (found_in (mapper_of d) T field ws)) id
    → (has_reduce d ≡ false) × Has (found_in (mapper_of d) T field ws) id) [
      | true ↦ λ e g. absurd g
      | false ↦ λ e g. (e, g)
    ] refl h

pub ids-found : (d : Definition) (T : Table) (field ws id : List ℕ) → has_reduce d ≡ false → Has (found_in (mapper_of d) T field ws) id → Has (ids_found d T field ws) id
ids-found d T field ws id none h = subst (λ b. Has (cond {A = List (List ℕ)} b [] (found_in (mapper_of d) T field ws)) id) (sym none) h

-- A DOCUMENT OF A TABLE IS FOUND UNDER ITS KEY

both_of : (a b : Bool) → T (a && b) → T a × T b
both_of true b h = (tt, h)
both_of false b h = absurd h

is_less : (o : Ordering) → T (is_lt o) → o ≡ Less
is_less Less h = refl
is_less Equal h = absurd h
is_less Greater h = absurd h

below_has : (k : List ℕ) (es : List (List ℕ × Row)) (e : List ℕ × Row) → T (below_all key_cmp k es) → Has es e → key_cmp k e.0 ≡ Less
below_has k [] e h at = absurd at
below_has k (x ∷ es) e h (inl same) = subst (λ (y : List ℕ × Row). key_cmp k y.0 ≡ Less) same (is_less (key_cmp k x.0) (both_of (is_lt (key_cmp k x.0)) (below_all key_cmp k es) h).0)
below_has k (x ∷ es) e h (inr at) = below_has k es e (both_of (is_lt (key_cmp k x.0)) (below_all key_cmp k es) h).1 at

entry_found : (es : List (List ℕ × Row)) (e : List ℕ × Row) → T (is_sorted key_cmp es) → Has es e → entry_at key_cmp e.0 es ≡ Some e.1
entry_found [] e h at = absurd at
entry_found (x ∷ es) e h (inl same) =
    subst (λ (y : List ℕ × Row). cond (eq_by_cmp key_cmp y.0 x.0) (Some x.1) (entry_at key_cmp y.0 es) ≡ Some y.1) same
    (ap (λ b. cond b (Some x.1) (entry_at key_cmp x.0 es)) (tied x.0 x.0 ∙ same_itself x.0))
entry_found (x ∷ es) e h (inr at) =
    let up = both_of (below_all key_cmp x.0 es) (is_sorted key_cmp es) h in
    ap (λ b. cond b (Some x.1) (entry_at key_cmp e.0 es)) (tied e.0 x.0 ∙ nat_list_eq_equiv.symm e.0 x.0 ∙ differ_less x.0 e.0 (below_has x.0 es e up.0 at))
    ∙ entry_found es e up.1 at

pub value_found : (U : Table) (d : Row) → Has (values U) d → (q : List ℕ) × (get U q ≡ Some d)
value_found U d h =
    let e = Has-map (λ x. x.1) (entries U) d h in
    (e.0.0, get-entries U e.0.0 ∙ entry_found (entries U) e.0 (entries_sorted U) e.1 ∙ ap Some e.2)

-- IDS

pub Has-filter_map : {X Y : Type 0} (f : X → Option Y) (xs : List X) (y : Y) → Has (filter_map f xs) y → (x : X) × Has xs x × (f x ≡ Some y)
Has-filter_map f [] y h = absurd h
Has-filter_map f (x ∷ xs) y h =
    elim (f x) as (λ o. f x ≡ o → Has (cons_option o (filter_map f xs)) y → (z : _) × ((x ≡ z) ⊎ Has xs z) × (f z ≡ Some y)) [
      | None ↦ λ e g. let r = Has-filter_map f xs y g in (r.0, inr r.1, r.2)
      | Some v ↦ λ e g. elim g [
        | inl same ↦ (x, inl refl, e ∙ ap Some same)
        | inr more ↦ let r = Has-filter_map f xs y more in (r.0, inr r.1, r.2)
      ]
    ] refl h

named : (id : List ℕ) (o : Outcome) (e : List ℕ × Fields) → entry_of id o ≡ Some e → id ≡ e.0
named id (Entry fields) e h = let same : (let x : List ℕ × Fields = (id, fields) in x) ≡ e = cc in ap (λ (x : List ℕ × Fields). x.0) same
named id NoEntry e h = absurd cc
named id Failed e h = absurd cc

-- the id of each entry of an index is spelled as the store spells it
pub entries-IsAsKept : (W : World) (s : Slot) (e : List ℕ × Fields) → Sound W → Has W.slots s → Has (scratch (mapper_of s.version.definition) s.version.table) e → IsSpelledAsStored W.store e.0
entries-IsAsKept W s e o at h =
    let m = mapper_of s.version.definition in
    let d = Has-filter_map (λ x. entry_of x.id (m.meaning x s.version.table).outcome) (mapped_documents m s.version.table) e h in
    let q = value_found s.version.table d.0 (Has-filter (is_mapped m) (values s.version.table) d.0 d.1) in
    let f = o.fits s at in
    let a = f.agrees in
    let k = a.known q.0 d.0 q.1 in
    let under = (a.filed q.0 d.0 q.1).0 in
    subst (IsSpelledAsStored W.store) (named d.0.id (m.meaning d.0 s.version.table).outcome e d.2)
    (record { row = k.row; found = ap (λ x. row_at x W.store.rows) (sym under) ∙ k.found; spelled = k.spelled })

pub Sound-ids : (M : Machine) → Sound M.world → IdsAreSpelledAsStored M
Sound-ids M o index field ws id = by (serving M.world.slots index) refl
  where
    by : (found : Option Slot) → serving M.world.slots index ≡ found → Has (ids_in (answer_find M.world index field ws found)) id → IsSpelledAsStored M.world.store id
    by None is h = absurd h
    by (Some s) is h =
        let m = mapper_of s.version.definition in
        let own = (found-ids s.version.definition s.version.table field ws id h).1 in
        let e = Has-map (λ x. x.0) (filter (λ x. field_is_text field ws x.1) (scratch m s.version.table)) id own in
        subst (IsSpelledAsStored M.world.store) e.2
        (entries-IsAsKept M.world s e.0 o (served M.world.slots index s is).0 (Has-filter (λ x. field_is_text field ws x.1) (scratch m s.version.table) e.0 e.1))

-- AFTER A RUN

pub run-serves : (setting : Setting) (events : List Event) (s : Slot) → AreFromClients events → let W = (run events (start setting)).world in Has W.slots s → serving W.slots s.name ≡ Some s
run-serves setting events s from =
    let o = run-Sound setting events from in serves (run events (start setting)).world.slots s o.apart

pub run-fresh : (setting : Setting) (events : List Event) → AreFromClients events → FreshIsFromScratch (run events (start setting))
run-fresh setting events from = Sound-fresh (run events (start setting)) (run-Sound setting events from)

pub run-flags : (setting : Setting) (events : List Event) → AreFromClients events → FlagsAreExact (run events (start setting))
run-flags setting events from = Sound-flags (run events (start setting)) (run-Sound setting events from)

pub run-ids : (setting : Setting) (events : List Event) → AreFromClients events → IdsAreSpelledAsStored (run events (start setting))
run-ids setting events from = Sound-ids (run events (start setting)) (run-Sound setting events from)

pub run-entries : (setting : Setting) (events : List Event) (s : Slot) (e : List ℕ × Fields) → AreFromClients events → let W = (run events (start setting)).world in
    Has W.slots s → Has (scratch (mapper_of s.version.definition) s.version.table) e → IsSpelledAsStored W.store e.0
run-entries setting events s e from = entries-IsAsKept (run events (start setting)).world s e (run-Sound setting events from)
