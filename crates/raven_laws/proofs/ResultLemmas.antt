-- The results of a query that asks for all are the documents that it finds.
use Rattle.std.proofs.Common.{◌≡◌, ℕ, pos, nat_abs, List, [], ◌∷◌, ◌++◌, Bool, true, false, not, cond, ◌&&◌, is_none, is_some, unwrap_or, filter, find, drop, map, Option, Some, None, refl, sym, ap, ◌∙◌, subst, ◌⊎◌, inl, inr, ◌↔◌}
use Rattle.std.specs.declared.cmp.Ordering.{Ordering}
use Rattle.std.specs.FinMap.{values}
use Rattle.std.specs.Option.{option_map, option_and_then, option_or}
use Rattle.std.specs.Ordering.{is_gt}
use Rattle.std.specs.Str.{bytes_eq}
use Rattle.std.proofs.lemmas.Slice.Eq.{bytes_eq-Decides}
use Rattle.spec_data.specs.Data.{Data}
use Rattle.spec_data.specs.Folding.{folded}
use Rattle.spec_data.specs.Rows.{Row, Body, doc, gone, key, is_document}
use Rattle.spec_data.specs.Tables.{table_of}
use Rattle.spec_store.specs.Store.{Store, IsStore, row_at}
use Rattle.index_tree.specs.Definitions.{Definition}
use Rattle.index_tree.specs.Mapper.{mapper_of, scope_of, is_mapped}
use Rattle.index_tree.specs.Meaning.{Fields, Entry}
use Rattle.spec_query.specs.Binding.{NoParameter, NotGrouped, BadPage, check, is_in_page, plan_of}
use Rattle.spec_query.specs.Condition.{meets}
use Rattle.spec_query.specs.Fields.{asked_fields, cond_fields, is_ungrouped, not_grouped, selected_fields}
use Rattle.spec_query.specs.Finding.{document_at, document_in, document_result, documents_of, entries_of_collection, find_entries, is_document_of}
use Rattle.spec_query.specs.Parameters.{bound_where, parameter_refused}
use Rattle.spec_query.specs.Plan.{Plan, meeting, page, up_to}
use Rattle.spec_query.specs.Printing.{field_text}
use Rattle.spec_query.specs.Query.{Ask, Cond, OfCollection, Query, is_empty, is_of_index, is_whole}
use Rattle.spec_query.specs.Sorting.{inserted, keys_order, sorted}
use Rattle.spec_index.specs.Reduces.{reduce_of}
use Rattle.spec_index.specs.Index.{documents}
use Rattle.spec_index.specs.Mapping.{scratch}
use Rattle.spec_index.specs.World.{Slot, World, reads}
use Rattle.spec_index.specs.Optimiser.{pick}
use Rattle.spec_server.specs.Asking.{Ready, answer_from_collection, answer_picked, found_by, unless_refused}
use Rattle.spec_server.specs.Shapes.{shape_asked}
use Rattle.spec_server.specs.Courses.{Machine}
use Rattle.spec_server.specs.Answers.{has_reduce, is_stale}
use Rattle.spec_server.specs.Shown.{shown}
use Rattle.spec_server.specs.Sound.{Has, Sound}
use Rattle.raven_laws.specs.Queries.{AsksForAll, AsksIndex, FitsIndex, HasNoPage, IsFound, IsInCollection, IsShown, query_reply, results_in}
use Rattle.spec_store.proofs.KeyedLemmas.{get-table_of}
use Rattle.spec_store.proofs.StoreLemmas.{both_true, found_key, found_passing, passing_found, same_row}
use Rattle.raven_laws.proofs.SlotLemmas.{Has-filter, Has-map, Has-mapped, into-filter, passes}
use Rattle.raven_laws.proofs.AnswerLemmas.{Has-filter_map, value_found}
use Rattle.raven_laws.proofs.EntryLemmas.{found-Has, given-scratch, into-filter_map, scratch-given}
use Rattle.raven_laws.proofs.QueryLemmas.{answer_by_origin, bound-answer, fresh-query, reply_by}

-- ORDER

inserted-Has : {X : Type 0} (cmp : X → X → Ordering) (x : X) (ys : List X) (z : X) → Has (inserted cmp x ys) z → (x ≡ z) ⊎ Has ys z
inserted-Has cmp x [] z h = h
inserted-Has cmp x (y ∷ ys) z h = elim (is_gt (cmp x y)) as (λ b. Has (cond b (y ∷ inserted cmp x ys) (x ∷ y ∷ ys)) z → (x ≡ z) ⊎ ((y ≡ z) ⊎ Has ys z)) [
  | true ↦ λ g. elim g [
    | inl e ↦ inr (inl e)
    | inr more ↦ elim (inserted-Has cmp x ys z more) [ inl e ↦ inl e | inr k ↦ inr (inr k) ]
  ]
  | false ↦ λ g. g
] h

Has-inserted : {X : Type 0} (cmp : X → X → Ordering) (x : X) (ys : List X) (z : X) → (x ≡ z) ⊎ Has ys z → Has (inserted cmp x ys) z
Has-inserted cmp x [] z h = h
Has-inserted cmp x (y ∷ ys) z h = elim (is_gt (cmp x y)) as (λ b. Has (cond b (y ∷ inserted cmp x ys) (x ∷ y ∷ ys)) z) [
  | true ↦ elim h [
    | inl e ↦ inr (Has-inserted cmp x ys z (inl e))
    | inr k ↦ elim k [ inl e ↦ inl e | inr more ↦ inr (Has-inserted cmp x ys z (inr more)) ]
  ]
  | false ↦ h
]

sorted-Has : {X : Type 0} (cmp : X → X → Ordering) (xs : List X) (z : X) → Has (sorted cmp xs) z → Has xs z
sorted-Has cmp [] z h = h
sorted-Has cmp (x ∷ xs) z h = elim (inserted-Has cmp x (sorted cmp xs) z h) [ inl e ↦ inl e | inr k ↦ inr (sorted-Has cmp xs z k) ]

Has-sorted : {X : Type 0} (cmp : X → X → Ordering) (xs : List X) (z : X) → Has xs z → Has (sorted cmp xs) z
Has-sorted cmp [] z h = h
Has-sorted cmp (x ∷ xs) z (inl e) = Has-inserted cmp x (sorted cmp xs) z (inl e)
Has-sorted cmp (x ∷ xs) z (inr h) = Has-inserted cmp x (sorted cmp xs) z (inr (Has-sorted cmp xs z h))

-- PLANS

-- the page has all rows
pub record TakesRows (q : Plan) : Type 0 where
  pub start : q.start ≡ 0
  pub size : q.size ≡ None

pub taken-rows : (ask : Ask) → HasNoPage ask → TakesRows (plan_of ask)
taken-rows ask no_page = record { start = ap nat_abs no_page.start; size = ap (option_map nat_abs) no_page.size }

abbrev ordered : {K : Type 0} → Plan → List (K × Fields) → List (K × Fields)
ordered q entries = sorted (λ a b. keys_order q.order a.1 b.1) (meeting q entries)

whole-page : {K : Type 0} (q : Plan) (entries : List (K × Fields)) → TakesRows q → page q entries ≡ ordered q entries
whole-page q entries all = λ i. up_to (all.size i) (drop (all.start i) (ordered q entries))

pub page-Has : {K : Type 0} (q : Plan) (entries : List (K × Fields)) (e : K × Fields) → TakesRows q → Has (page q entries) e → Has entries e × (meets q.condition false e.1 ≡ true)
page-Has q entries e all h =
    let there = sorted-Has (λ a b. keys_order q.order a.1 b.1) (meeting q entries) e (subst (λ es. Has es e) (whole-page q entries all) h) in
    (Has-filter (λ r. meets q.condition false r.1) entries e there, passes (λ r. meets q.condition false r.1) entries e there)

pub Has-page : {K : Type 0} (q : Plan) (entries : List (K × Fields)) (e : K × Fields) → TakesRows q → Has entries e → meets q.condition false e.1 ≡ true → Has (page q entries) e
Has-page q entries e all h is =
    subst (λ es. Has es e) (sym (whole-page q entries all))
    (Has-sorted (λ a b. keys_order q.order a.1 b.1) (meeting q entries) e (into-filter (λ r. meets q.condition false r.1) entries e h is))

-- RESULTS

-- a row of the store with its document, which the query shows so, is that of an entry which meets the condition
record IsOfEntry (W : World) (ask : Ask) (entries : List (List ℕ × Fields)) (d : Data) : Type 0 where
  pub entry : List ℕ × Fields
  pub among : Has entries entry
  pub holds : meets (bound_where ask.parameters ask.query.cond) false entry.1 ≡ true
  pub row : Row
  pub under : row_at (folded entry.0) W.store.rows ≡ Some row
  pub document : IsShown W ask row d

abbrev results : World → Plan → List (List ℕ × Fields) → List Data
results W q entries = let found = find_entries (shown W.setting.base) (λ id. row_at id W.store.rows) q entries in found.results

same_pair : (a b : Row × Data) → Some a ≡ Some b → a ≡ b
same_pair a b h = cc

document-of : (r : Row) (x : Row × Data) → document_in r ≡ Some x → (r ≡ x.0) × (r.body ≡ doc x.1)
document-of r x h = elim r.body as (λ b. r.body ≡ b → (elim b [ doc d ↦ Some (r, d) | gone ↦ None ]) ≡ Some x → (r ≡ x.0) × (r.body ≡ doc x.1)) [
  | doc d ↦ λ e g. let same = same_pair (r, d) x g in (ap (λ (y : Row × Data). y.0) same, e ∙ ap (λ (y : Row × Data). doc y.1) same)
  | gone ↦ λ e g. absurd cc
] refl h

-- the row and the document that an id leads to
found-document : (S : Store) (q : List ℕ) (x : Row × Data) → option_and_then document_in (row_at q S.rows) ≡ Some x → (row_at q S.rows ≡ Some x.0) × (x.0.body ≡ doc x.1)
found-document S q x h = elim (row_at q S.rows) as (λ o. option_and_then document_in o ≡ Some x → (o ≡ Some x.0) × (x.0.body ≡ doc x.1)) [
  | None ↦ λ g. absurd cc
  | Some r ↦ λ g. let f = document-of r x g in (ap Some f.0, ap (λ (y : Row). y.body) (sym f.0) ∙ f.1)
] h

result-entry : (W : World) (ask : Ask) (entries : List (List ℕ × Fields)) (d : Data) → HasNoPage ask → Has (results W (plan_of ask) entries) d → IsOfEntry W ask entries d
result-entry W ask entries d no_page h =
    let q = plan_of ask in
    let show = shown W.setting.base in
    let at = λ (id : List ℕ). row_at id W.store.rows in
    let x = Has-map (document_result show at q.columns) (documents_of show at (page q entries)) d h in
    let e = Has-filter_map (λ y. document_at show at y.0) (page q entries) x.0 x.1 in
    let m = page-Has q entries e.0 (taken-rows ask no_page) e.1 in
    let f = found-document W.store (folded e.0.0) x.0 e.2 in
    record {
      entry = e.0;
      among = m.0;
      holds = m.1;
      row = x.0.0;
      under = f.0;
      document = record {
        found = subst (λ k. row_at k W.store.rows ≡ Some x.0.0) (found_key (folded e.0.0) W.store.rows x.0.0 f.0) f.0;
        body = x.0.1;
        document = f.1;
        shows = x.2;
      };
    }

entry-result : (W : World) (ask : Ask) (entries : List (List ℕ × Fields)) (d : Data) → HasNoPage ask → IsOfEntry W ask entries d → Has (results W (plan_of ask) entries) d
entry-result W ask entries d no_page x =
    let q = plan_of ask in
    let show = shown W.setting.base in
    let at = λ (id : List ℕ). row_at id W.store.rows in
    let pair : Row × Data = (x.row, x.document.body) in
    let there : document_at show at x.entry.0 ≡ Some pair =
    ap (option_and_then document_in) x.under ∙ ap (λ (b : Body). elim b [ doc d ↦ Some (x.row, d) | gone ↦ None ]) x.document.document in
    let listed = into-filter_map (λ y. document_at show at y.0) (page q entries) x.entry pair (Has-page q entries x.entry (taken-rows ask no_page) x.among x.holds) there in
    subst (Has (results W q entries)) x.document.shows (Has-mapped (document_result show at q.columns) (documents_of show at (page q entries)) pair listed)

-- INDEXES

abbrev live : Body → Bool
live body = elim body [ doc d ↦ true | gone ↦ false ]

entry-IsFound : (W : World) (d : Definition) (ask : Ask) (x : Data) → IsStore W.store
    → IsOfEntry W ask (scratch (mapper_of d) (documents (scope_of (mapper_of d)) W.store)) x → IsFound W d ask x
entry-IsFound W d ask x s h =
    let m = mapper_of d in
    let g = scratch-given m W.store h.entry s h.among in
    let same : g.0 ≡ h.row = same_row g.0 h.row (sym g.1.there ∙ ap (λ id. row_at (folded id) W.store.rows) g.1.id ∙ h.under) in
    record {
      row = h.row;
      document = h.document;
      mapped = subst (λ r. is_mapped m r ≡ true) same g.1.mapped;
      fields = h.entry.1;
      gives = subst (λ r. (m.meaning r (documents (scope_of m) W.store)).outcome ≡ Entry h.entry.1) same g.1.outcome;
      passes = h.holds;
    }

IsFound-entry : (W : World) (d : Definition) (ask : Ask) (x : Data) → IsStore W.store → IsFound W d ask x
    → IsOfEntry W ask (scratch (mapper_of d) (documents (scope_of (mapper_of d)) W.store)) x
IsFound-entry W d ask x s f = record {
  entry = (f.row.id, f.fields);
  among = given-scratch (mapper_of d) W.store f.row f.fields s (record {
    there = f.document.found;
    document = ap live f.document.document;
    mapped = f.mapped;
    id = refl;
    outcome = f.gives;
  });
  holds = f.passes;
  row = f.row;
  under = f.document.found;
  document = f.document;
}

no_reduce : (d : Definition) → has_reduce d ≡ false → reduce_of d ≡ None
no_reduce d h = elim (reduce_of d) as (λ o. is_some o ≡ false → o ≡ None) [ None ↦ λ e. refl | Some r ↦ λ e. absurd cc ] h

-- the results are those of all entries
query-results : (M : Machine) → Sound M.world → (ask : Ask) (s : Slot) → AsksIndex M.world ask s → FitsIndex ask s → is_stale M.world.store s ≡ false → has_reduce s.version.definition ≡ false
    → results_in (query_reply M ask) ≡ results M.world (plan_of ask) (scratch (mapper_of s.version.definition) (documents (reads s.version) M.world.store))
query-results M o ask s asks fits is_fresh ungrouped =
    let W = M.world in
    let U = documents (reads s.version) W.store in
    ap results_in (fresh-query M o ask s asks is_fresh ∙ bound-answer U W ask s fits)
    ∙ ap (λ reduce. let found = found_by reduce (shown W.setting.base) (plan_of ask) (scratch (mapper_of s.version.definition) U) W.store in found.results)
    (no_reduce s.version.definition ungrouped)

pub query-exact : (M : Machine) → Sound M.world → (ask : Ask) (s : Slot) (d : Data) → AsksIndex M.world ask s → FitsIndex ask s → HasNoPage ask
    → is_stale M.world.store s ≡ false → has_reduce s.version.definition ≡ false → Has (results_in (query_reply M ask)) d ↔ IsFound M.world s.version.definition ask d
query-exact M o ask s d asks fits no_page is_fresh ungrouped =
    let entries = scratch (mapper_of s.version.definition) (documents (reads s.version) M.world.store) in
    let same = query-results M o ask s asks fits is_fresh ungrouped in (
      λ at. entry-IsFound M.world s.version.definition ask d o.store (result-entry M.world ask entries d no_page (subst (λ found. Has found d) same at)),
      λ f. subst (λ found. Has found d) (sym same) (entry-result M.world ask entries d no_page (IsFound-entry M.world s.version.definition ask d o.store f)),
    )

-- COLLECTIONS

-- a query on a whole collection has no condition and no order
record IsBare (q : Query) : Type 0 where
  pub cond : q.cond ≡ None
  pub sorts : q.sorts ≡ []

no-elements : {X : Type 0} (xs : List X) → is_empty xs ≡ true → xs ≡ []
no-elements [] h = refl
no-elements (x ∷ xs) h = absurd cc

no-condition : (cond : Option Cond) → is_none cond ≡ true → cond ≡ None
no-condition None h = refl
no-condition (Some c) h = absurd cc

whole-bare : (q : Query) → is_whole q ≡ true → IsBare q
whole-bare q h =
    let last = both_true (not (is_of_index q) && is_empty q.groups && is_none q.cond) (is_empty q.sorts) h in
    let middle = both_true (not (is_of_index q) && is_empty q.groups) (is_none q.cond) last.0 in
    record { cond = no-condition q.cond middle.1; sorts = no-elements q.sorts last.1 }

-- so it names no parameter and no field
no-field : (q : Query) → IsBare q → q.columns ≡ [] → not_grouped q ≡ None
no-field q bare columns =
    let none : asked_fields q ++ selected_fields q ≡ [] = λ i. (unwrap_or (option_map cond_fields (bare.cond i)) [] ++ map (λ s. s.field) (bare.sorts i)) ++ map (λ c. c.field) (columns i) in
    elim (is_of_index q) as (λ b. cond b None (find (is_ungrouped q.groups) (asked_fields q ++ selected_fields q)) ≡ None) [
      | true ↦ refl
      | false ↦ ap (find (is_ungrouped q.groups)) none
    ]

bare-unrefused : (ask : Ask) → IsBare ask.query → AsksForAll ask → check ask ≡ None
bare-unrefused ask bare all = λ i.
    option_or (option_map NoParameter (parameter_refused ask.parameters (bare.cond i))) (
    option_or (option_map (λ field. NotGrouped (field_text field)) (no-field ask.query bare all.columns i))
    (cond (is_in_page (all.start i) && is_in_page (unwrap_or (all.size i) (pos 0))) None (Some BadPage)))

pub whole-unrefused : (ask : Ask) → is_whole ask.query ≡ true → AsksForAll ask → check ask ≡ None
whole-unrefused ask whole all = bare-unrefused ask (whole-bare ask.query whole) all

collection-results : (M : Machine) (ask : Ask) (name : List ℕ) → ask.query.origin ≡ OfCollection name → is_whole ask.query ≡ true → check ask ≡ None
    → results_in (query_reply M ask) ≡ results M.world (plan_of ask) (entries_of_collection name M.world.store)
collection-results M ask name is whole unrefused =
    ap (λ o. results_in (reply_by M ask (unless_refused (answer_by_origin M.world ask ask.query.origin) o))) unrefused
    ∙ ap (λ o. results_in (reply_by M ask (answer_by_origin M.world ask o))) is
    ∙ ap (λ b. results_in (reply_by M ask (cond b (Ready (answer_from_collection M.world ask name)) (answer_picked M.world ask (pick (shape_asked name ask.query) M.world.store M.world.slots))))) whole

-- the entries are those of the documents of the collection
collection-entry : (S : Store) (name : List ℕ) (e : List ℕ × Fields) → IsStore S → Has (entries_of_collection name S) e
    → (r : Row) × (row_at (key r) S.rows ≡ Some r) × (is_document_of name r ≡ true) × ((let x : List ℕ × Fields = (r.id, []) in x) ≡ e)
collection-entry S name e s h =
    let rows = filter (is_document_of name) S.rows in
    let r = Has-map (λ r. (let x : List ℕ × Fields = (r.id, []) in x)) (values (table_of rows)) e h in
    let q = value_found (table_of rows) r.0 r.1 in
    let f = found_passing (is_document_of name) q.0 S.rows r.0 s.apart (sym (get-table_of q.0 rows) ∙ q.1) in
    (r.0, subst (λ k. row_at k S.rows ≡ Some r.0) (found_key q.0 S.rows r.0 f.0) f.0, f.1, r.2)

entry-collection : (S : Store) (name : List ℕ) (r : Row) → IsStore S → row_at (key r) S.rows ≡ Some r → is_document_of name r ≡ true → Has (entries_of_collection name S) (r.id, [])
entry-collection S name r s there is =
    let rows = filter (is_document_of name) S.rows in
    Has-mapped (λ r. (let x : List ℕ × Fields = (r.id, []) in x)) (values (table_of rows)) r
    (found-Has (table_of rows) (key r) r (get-table_of (key r) rows ∙ passing_found (is_document_of name) (key r) S.rows r s.apart there is))

entry-IsInCollection : (W : World) (ask : Ask) (name : List ℕ) (d : Data) → IsStore W.store → IsOfEntry W ask (entries_of_collection name W.store) d → IsInCollection W ask name d
entry-IsInCollection W ask name d s h =
    let r = collection-entry W.store name h.entry s h.among in
    let id : r.0.id ≡ h.entry.0 = ap (λ (x : List ℕ × Fields). x.0) r.3 in
    let same : r.0 ≡ h.row = same_row r.0 h.row (sym r.1 ∙ ap (λ id. row_at (folded id) W.store.rows) id ∙ h.under) in
    let both = both_true (bytes_eq r.0.collection name) (is_document r.0) r.2 in
    record { row = h.row; document = h.document; inside = sym (ap (λ (x : Row). x.collection) same) ∙ (bytes_eq-Decides r.0.collection name).0 both.0 }

IsInCollection-entry : (W : World) (ask : Ask) (name : List ℕ) (d : Data) → IsStore W.store → IsBare ask.query → IsInCollection W ask name d → IsOfEntry W ask (entries_of_collection name W.store) d
IsInCollection-entry W ask name d s bare x = record {
  entry = (x.row.id, []);
  among = entry-collection W.store name x.row s x.document.found (λ i. (bytes_eq-Decides x.row.collection name).1 x.inside i && ap live x.document.document i);
  holds = ap (λ cond. meets (bound_where ask.parameters cond) false []) bare.cond;
  row = x.row;
  under = x.document.found;
  document = x.document;
}

pub collection-exact : (M : Machine) → Sound M.world → (ask : Ask) (name : List ℕ) (d : Data) → ask.query.origin ≡ OfCollection name → is_whole ask.query ≡ true → check ask ≡ None → HasNoPage ask
    → Has (results_in (query_reply M ask)) d ↔ IsInCollection M.world ask name d
collection-exact M o ask name d is whole unrefused no_page =
    let entries = entries_of_collection name M.world.store in
    let same = collection-results M ask name is whole unrefused in (
      λ at. entry-IsInCollection M.world ask name d o.store (result-entry M.world ask entries d no_page (subst (λ found. Has found d) same at)),
      λ x. subst (λ found. Has found d) (sym same) (entry-result M.world ask entries d no_page (IsInCollection-entry M.world ask name d o.store (whole-bare ask.query whole) x)),
    )
