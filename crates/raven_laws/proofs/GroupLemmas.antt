-- The results of a query on an index with a reduce are the rows of the keys that its entries have.
use Rattle.std.proofs.Common.{◌≡◌, ℕ, List, [], ◌∷◌, Bool, true, false, cond, ◌||◌, Some, None, length, map, refl, sym, ap, ◌∙◌, subst, ◌⊎◌, inl, inr, ◌↔◌}
use Rattle.std.specs.declared.cmp.Ordering.{Ordering}
use Rattle.std.specs.declared.cmp.Ordering.TheVariants.{Less, Equal, Greater}
use Rattle.std.specs.Cmp.{IsTotalOrder, tied_itself}
use Rattle.std.specs.FinMap.{FinMap, empty, entries, entries-insert, find as entry_at, from_entries, get, get-entries, len-empty, len-entries, values}
use Rattle.std.specs.FinMap.Entries.{by_order, put}
use Rattle.std.specs.List.{list_any}
use Rattle.std.specs.Ordering.{eq_by_cmp, is_eq}
use Rattle.spec_data.specs.Data.{Data}
use Rattle.spec_store.specs.Store.{IsStore}
use Rattle.index_tree.specs.Definitions.{Definition}
use Rattle.index_tree.specs.Mapper.{mapper_of, scope_of}
use Rattle.index_tree.specs.Meaning.{Fields}
use Rattle.index_tree.specs.declared.reduce_query.ReduceQuery.{ReduceQuery}
use Rattle.spec_query.specs.Binding.{plan_of}
use Rattle.spec_query.specs.Finding.{row_result}
use Rattle.spec_query.specs.Plan.{Plan, Selected, page}
use Rattle.spec_query.specs.Query.{Ask}
use Rattle.spec_store.specs.Store.{row_at}
use Rattle.spec_index.specs.Index.{documents}
use Rattle.spec_index.specs.Mapping.{scratch}
use Rattle.spec_index.specs.Reduces.{reduce_of}
use Rattle.spec_index.specs.Rows.{Key, key_of, key_order, reduced, row_of, rows_of}
use Rattle.spec_index.specs.World.{Slot, World, reads}
use Rattle.spec_index.proofs.Reordering.{rows_at}
use Rattle.spec_index.proofs.Ties.{key_order-total}
use Rattle.spec_server.specs.Asking.{found_by, without_ids}
use Rattle.spec_server.specs.Courses.{Machine}
use Rattle.spec_server.specs.Answers.{is_stale}
use Rattle.spec_server.specs.Shown.{shown}
use Rattle.spec_server.specs.Sound.{Has, Sound}
use Rattle.raven_laws.specs.Queries.{AsksIndex, FitsIndex, HasNoPage, IsEntry, IsRowOfKey, entries_in, query_reply, results_in}
use Rattle.raven_laws.proofs.EntryLemmas.{given-scratch, scratch-given}
use Rattle.raven_laws.proofs.QueryLemmas.{bound-answer, fresh-query}
use Rattle.raven_laws.proofs.ResultLemmas.{Has-page, page-Has, taken-rows}
use Rattle.raven_laws.proofs.SlotLemmas.{Has-map, Has-mapped}

-- MAPS

module _ {K X : Type 0} (R : K → K → Ordering) where
  abbrev values_in : List (K × X) → List X
  values_in es = map (λ e. e.1) es

  put-Has : (k : K) (v : X) (es : List (K × X)) (x : X) → Has (values_in (put R k v es)) x → (v ≡ x) ⊎ Has (values_in es) x
  put-Has k v [] x h = h
  put-Has k v (e ∷ es) x h =
      elim (R k e.0) as (λ o. Has (values_in (by_order o ((k, v) ∷ e ∷ es) ((e.0, v) ∷ es) (e ∷ put R k v es))) x → (v ≡ x) ⊎ ((e.1 ≡ x) ⊎ Has (values_in es) x)) [
        | Less ↦ λ g. g
        | Equal ↦ λ g. elim g [ inl same ↦ inl same | inr more ↦ inr (inr more) ]
        | Greater ↦ λ g. elim g [
          | inl same ↦ inr (inl same)
          | inr more ↦ elim (put-Has k v es x more) [ inl same ↦ inl same | inr there ↦ inr (inr there) ]
        ]
      ] h

  found-value : (es : List (K × X)) (q : K) (x : X) → entry_at R q es ≡ Some x → Has (values_in es) x
  found-value [] q x h = absurd cc
  found-value (e ∷ es) q x h = elim (eq_by_cmp R q e.0) as (λ b. cond b (Some e.1) (entry_at R q es) ≡ Some x → (e.1 ≡ x) ⊎ Has (values_in es) x) [
    | true ↦ λ is. let same : e.1 ≡ x = cc in inl same
    | false ↦ λ is. inr (found-value es q x is)
  ] h

  got-value : (m : FinMap R X) (q : K) (x : X) → get m q ≡ Some x → Has (values m) x
  got-value m q x h = found-value (entries m) q x (sym (get-entries m q) ∙ h)

no-values : {K X : Type 0} (es : List (K × X)) (x : X) → length es ≡ 0 → Has (map (λ e. e.1) es) x → ⊥
no-values [] x e h = h
no-values (y ∷ es) x e h = absurd cc

-- a map of a list has no other values
from-Has : {K X : Type 0} {R : K → K → Ordering} → IsTotalOrder R → (es : List (K × X)) (x : X) → Has (values (from_entries {R = R} es)) x → Has (map (λ e. e.1) es) x
from-Has {K} {X} {R} o [] x h = absurd (no-values (entries (empty {X = X} {R = R})) x (sym (len-entries (empty {X = X} {R = R})) ∙ len-empty R X) h)
from-Has {K} {X} {R} o (e ∷ es) x h =
    elim (put-Has R e.0 e.1 (entries (from_entries {R = R} es)) x (subst (λ l. Has (map (λ y. y.1) l) x) (entries-insert o (from_entries es) e.0 e.1) h)) [
      | inl same ↦ inl same
      | inr more ↦ inr (from-Has o es x more)
    ]

-- ROWS

-- the row of the key of one of the entries
record IsKeyed (reduce : ReduceQuery) (es : List Fields) (row : Fields) : Type 0 where
  pub entry : Fields
  pub among : Has es entry
  pub of_key : row_of reduce es (key_of reduce.key entry) ≡ row

reduced-keyed : (reduce : ReduceQuery) (es : List Fields) (row : Fields) → Has (reduced reduce es) row → IsKeyed reduce es row
reduced-keyed reduce es row h =
    let pair = λ (e : Fields). (let x : Key × Fields = (key_of reduce.key e, row_of reduce es (key_of reduce.key e)) in x) in
    let there = Has-map (λ (x : Key × Fields). x.1) (map pair es) row (from-Has key_order-total (map pair es) row h) in
    let e = Has-map pair es there.0 there.1 in
    record { entry = e.0; among = e.1; of_key = ap (λ (x : Key × Fields). x.1) e.2 ∙ there.2 }

same-key : (q : Key) → is_eq (key_order q q) ≡ true
same-key q = ap is_eq (tied_itself key_order-total q)

has-key : (names : List (List ℕ)) (es : List Fields) (e : Fields) → Has es e → list_any (λ x. is_eq (key_order (key_of names e) (key_of names x))) es ≡ true
has-key names [] e h = absurd h
has-key names (x ∷ es) e (inl same) =
    ap (λ b. b || list_any (λ y. is_eq (key_order (key_of names e) (key_of names y))) es) (ap (λ y. is_eq (key_order (key_of names e) (key_of names y))) same ∙ same-key (key_of names e))
has-key names (x ∷ es) e (inr more) = by (is_eq (key_order (key_of names e) (key_of names x))) (has-key names es e more)
  where
    by : (b : Bool) → list_any (λ y. is_eq (key_order (key_of names e) (key_of names y))) es ≡ true → b || list_any (λ y. is_eq (key_order (key_of names e) (key_of names y))) es ≡ true
    by true h = refl
    by false h = h

keyed-reduced : (reduce : ReduceQuery) (es : List Fields) (row : Fields) → IsKeyed reduce es row → Has (reduced reduce es) row
keyed-reduced reduce es row k =
    let q = key_of reduce.key k.entry in
    subst (Has (reduced reduce es)) k.of_key
    (got-value key_order (rows_of reduce es) q (row_of reduce es q) (rows_at reduce es q ∙ ap (λ b. cond b (Some (row_of reduce es q)) None) (has-key reduce.key es k.entry k.among)))

-- ENTRIES OF DOCUMENTS

listed-IsEntry : (W : World) (d : Definition) (fields : Fields) → IsStore W.store → Has (entries_in W d) fields → IsEntry W d fields
listed-IsEntry W d fields s h =
    let m = mapper_of d in
    let e = Has-map (λ (x : List ℕ × Fields). x.1) (scratch m (documents (scope_of m) W.store)) fields h in
    let g = scratch-given m W.store e.0 s e.1 in
    subst (IsEntry W d) e.2 (record { row = g.0; found = g.1.there; document = g.1.document; mapped = g.1.mapped; gives = g.1.outcome })

IsEntry-listed : (W : World) (d : Definition) (fields : Fields) → IsStore W.store → IsEntry W d fields → Has (entries_in W d) fields
IsEntry-listed W d fields s x =
    let m = mapper_of d in
    Has-mapped (λ (e : List ℕ × Fields). e.1) (scratch m (documents (scope_of m) W.store)) (x.row.id, fields)
    (given-scratch m W.store x.row fields s (record { there = x.found; document = x.document; mapped = x.mapped; id = refl; outcome = x.gives }))

-- RESULTS

abbrev result_of : World → List Selected → Unit {0} × Fields → Data
result_of W columns r = row_result (shown W.setting.base) (λ id. row_at id W.store.rows) columns r.1

abbrev results : World → Plan → List Fields → List Data
results W q rows = map (result_of W q.columns) (page q (without_ids rows))

-- the results are those of the rows
grouped-results : (M : Machine) → Sound M.world → (ask : Ask) (s : Slot) (reduce : ReduceQuery) → AsksIndex M.world ask s → FitsIndex ask s → is_stale M.world.store s ≡ false
    → reduce_of s.version.definition ≡ Some reduce → results_in (query_reply M ask) ≡ results M.world (plan_of ask) (reduced reduce (entries_in M.world s.version.definition))
grouped-results M o ask s reduce asks fits is_fresh has =
    let W = M.world in
    let U = documents (reads s.version) W.store in
    ap results_in (fresh-query M o ask s asks is_fresh ∙ bound-answer U W ask s fits)
    ∙ ap (λ reduce. let found = found_by reduce (shown W.setting.base) (plan_of ask) (scratch (mapper_of s.version.definition) U) W.store in found.results) has

result-row : (W : World) (d : Definition) (reduce : ReduceQuery) (ask : Ask) (x : Data) → IsStore W.store → HasNoPage ask
    → Has (results W (plan_of ask) (reduced reduce (entries_in W d))) x → IsRowOfKey W d reduce ask x
result-row W d reduce ask x s all h =
    let q = plan_of ask in
    let taken = taken-rows ask all in
    let rows = reduced reduce (entries_in W d) in
    let r = Has-map (result_of W q.columns) (page q (without_ids rows)) x h in
    let p = page-Has q (without_ids rows) r.0 taken r.1 in
    let f = Has-map (λ (fields : Fields). (let y : Unit {0} × Fields = (tt, fields) in y)) rows r.0 p.0 in
    let same : f.0 ≡ r.0.1 = ap (λ (y : Unit {0} × Fields). y.1) f.2 in
    let k = reduced-keyed reduce (entries_in W d) f.0 f.1 in
    record {
      entry = k.entry;
      given = listed-IsEntry W d k.entry s k.among;
      row = r.0.1;
      of_key = k.of_key ∙ same;
      passes = p.1;
      shows = r.2;
    }

row-result : (W : World) (d : Definition) (reduce : ReduceQuery) (ask : Ask) (x : Data) → IsStore W.store → HasNoPage ask
    → IsRowOfKey W d reduce ask x → Has (results W (plan_of ask) (reduced reduce (entries_in W d))) x
row-result W d reduce ask x s all k =
    let q = plan_of ask in
    let taken = taken-rows ask all in
    let rows = reduced reduce (entries_in W d) in
    let pair : Unit {0} × Fields = (tt, k.row) in
    let there = keyed-reduced reduce (entries_in W d) k.row (record { entry = k.entry; among = IsEntry-listed W d k.entry s k.given; of_key = k.of_key }) in
    let listed = Has-page q (without_ids rows) pair taken (Has-mapped (λ (fields : Fields). (let y : Unit {0} × Fields = (tt, fields) in y)) rows k.row there) k.passes in
    subst (Has (results W q rows)) k.shows (Has-mapped (result_of W q.columns) (page q (without_ids rows)) pair listed)

pub grouped-exact : (M : Machine) → Sound M.world → (ask : Ask) (s : Slot) (reduce : ReduceQuery) (d : Data) → AsksIndex M.world ask s → FitsIndex ask s → HasNoPage ask
    → is_stale M.world.store s ≡ false → reduce_of s.version.definition ≡ Some reduce → Has (results_in (query_reply M ask)) d ↔ IsRowOfKey M.world s.version.definition reduce ask d
grouped-exact M o ask s reduce d asks fits all is_fresh has =
    let same = grouped-results M o ask s reduce asks fits is_fresh has in (
      λ at. result-row M.world s.version.definition reduce ask d o.store all (subst (λ found. Has found d) same at),
      λ k. subst (λ found. Has found d) (sym same) (row-result M.world s.version.definition reduce ask d o.store all k),
    )
