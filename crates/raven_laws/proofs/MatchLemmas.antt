-- A fresh answer has all that matches, and nothing else.
use Rattle.std.proofs.Common.{◌≡◌, ℕ, List, false, Some, filter, refl, sym, ap, ◌∙◌, subst, ◌↔◌}
use Rattle.spec_data.specs.Folding.{folded}
use Rattle.spec_store.specs.Store.{row_at, Store, IsStore}
use Rattle.spec_index.specs.Index.{documents}
use Rattle.index_tree.specs.Definitions.{Definition}
use Rattle.index_tree.specs.Mapper.{mapper_of, scope_of}
use Rattle.spec_index.specs.Mapping.{scratch}
use Rattle.spec_index.specs.World.{Slot, serving}
use Rattle.spec_store.specs.Commit.{Setting}
use Rattle.spec_server.specs.Requests.{Event, AreFromClients}
use Rattle.spec_server.specs.Courses.{Machine}
use Rattle.spec_server.specs.Answers.{ids_found, is_stale}
use Rattle.spec_server.specs.Machine.{start, run}
use Rattle.spec_index.specs.Find.{field_is_text, found_in}
use Rattle.spec_server.specs.Sound.{Has, Sound}
use Rattle.raven_laws.specs.Claims.{IsMatch, find_reply, ids_in, FreshIsExact}
use Rattle.raven_laws.proofs.SlotLemmas.{Has-filter, Has-map, Has-mapped, passes, into-filter}
use Rattle.raven_laws.proofs.MachineLemmas.{run-Sound}
use Rattle.raven_laws.proofs.AnswerLemmas.{found-ids, ids-found, Sound-fresh}
use Rattle.raven_laws.proofs.EntryLemmas.{scratch-given, given-scratch}
use Rattle.raven_laws.proofs.GroupLemmas.{grouped-exact}
use Rattle.raven_laws.proofs.QueryLemmas.{cutoff-whole}
use Rattle.raven_laws.proofs.ResultLemmas.{collection-exact, query-exact, whole-unrefused}

found-IsMatch : (S : Store) (d : Definition) (field ws id : List ℕ) → IsStore S → Has (ids_found d (documents (scope_of (mapper_of d)) S) field ws) id → IsMatch S d field ws id
found-IsMatch S d field ws id s h =
    let m = mapper_of d in
    let U = documents (scope_of m) S in
    let own = found-ids d U field ws id h in
    let e = Has-map (λ x. x.0) (filter (λ x. field_is_text field ws x.1) (scratch m U)) id own.1 in
    let g = scratch-given m S e.0 s (Has-filter (λ x. field_is_text field ws x.1) (scratch m U) e.0 e.1) in
    record {
      row = g.0;
      found = subst (λ q. row_at q S.rows ≡ Some g.0) (ap folded (g.1.id ∙ e.2)) g.1.there;
      spelled = g.1.id ∙ e.2;
      document = g.1.document;
      mapped = g.1.mapped;
      fields = e.0.1;
      gives = g.1.outcome;
      matches = passes (λ x. field_is_text field ws x.1) (scratch m U) e.0 e.1;
      ungrouped = own.0;
    }

IsMatch-found : (S : Store) (d : Definition) (field ws id : List ℕ) → IsStore S → IsMatch S d field ws id → Has (ids_found d (documents (scope_of (mapper_of d)) S) field ws) id
IsMatch-found S d field ws id s x =
    let m = mapper_of d in
    let U = documents (scope_of m) S in
    let listed = given-scratch m S x.row x.fields s (record {
      there = subst (λ q. row_at q S.rows ≡ Some x.row) (ap folded (sym x.spelled)) x.found;
      document = x.document;
      mapped = x.mapped;
      id = refl;
      outcome = x.gives;
    }) in
    ids-found d U field ws id x.ungrouped
    (subst (Has (found_in m U field ws)) x.spelled
    (Has-mapped (λ y. y.0) (filter (λ y. field_is_text field ws y.1) (scratch m U)) (x.row.id, x.fields) (into-filter (λ y. field_is_text field ws y.1) (scratch m U) (x.row.id, x.fields) listed x.matches)))

find-exact : (M : Machine) → Sound M.world → (index field ws id : List ℕ) (s : Slot) → serving M.world.slots index ≡ Some s → is_stale M.world.store s ≡ false
    → Has (ids_in (find_reply M index field ws)) id ↔ IsMatch M.world.store s.version.definition field ws id
find-exact M o index field ws id s h is_fresh =
    let fresh = Sound-fresh M o in
    let same = ap ids_in (fresh.find index field ws s h is_fresh) in (
      λ at. found-IsMatch M.world.store s.version.definition field ws id o.store (subst (λ ids. Has ids id) same at),
      λ x. subst (λ ids. Has ids id) (sym same) (IsMatch-found M.world.store s.version.definition field ws id o.store x),
    )

pub Sound-exact : (M : Machine) → Sound M.world → FreshIsExact M
Sound-exact M o = record { find = find-exact M o; asked = query-exact M o; grouped = grouped-exact M o; cutoff = cutoff-whole M o; collection = collection-exact M o; unrefused = whole-unrefused }

pub run-exact : (setting : Setting) (events : List Event) → AreFromClients events → FreshIsExact (run events (start setting))
run-exact setting events from = Sound-exact (run events (start setting)) (run-Sound setting events from)
