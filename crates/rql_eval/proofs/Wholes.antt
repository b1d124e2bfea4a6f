-- Pages of whole collections, and of the rows of a reduce.
use Rattle.std.proofs.Common.{◌≡◌, ℕ, suc, List, [], ◌∷◌, true, false, cond, filter, map, length, drop, refl, sym, ap, ◌∙◌}
use Rattle.std.specs.Borrow.{Bor}
use Rattle.spec_data.specs.Data.{Data}
use Rattle.spec_data.specs.Members.{Path}
use Rattle.spec_data.specs.Rising.{Pairs}
use Rattle.spec_data.specs.Rows.{Row}
use Rattle.std.specs.Prelude.{Option}
use Rattle.index_tree.specs.Meaning.{Fields}
use Rattle.map_stage.specs.declared.fields.Entry.{Entry}
use Rattle.spec_query.specs.Condition.{Always, meets}
use Rattle.spec_query.specs.Finding as f
use Rattle.spec_query.specs.Plan.{Plan, meeting, page, up_to}
use Rattle.spec_query.specs.Results.{text_in_row}
use Rattle.spec_query.specs.Sorting.{keys_order, sorted}
use Rattle.rql_filter.specs.Entries.{EntryList}
use Rattle.rql_order.proofs.Stable.{map-sorted}
use Rattle.rql_results.specs.Rows.{included_by, row_result}
use Rattle.rql_results.specs.Documents.{with_included}
use Rattle.rql_eval.specs.Rows.{ids_of_rows, without_fields, without_ids}
use Rattle.rql_eval.proofs.Cutting.{map-cut, unsorted}

-- ---- a collection

all_meet : (entries : EntryList) → filter (λ e. meets Always false e.1) entries ≡ entries
all_meet [] = refl
all_meet (e ∷ entries) = ap (λ (l : EntryList). e ∷ l) (all_meet entries)

all_meeting : (q : Plan) (entries : EntryList) → q.condition ≡ Always → meeting q entries ≡ entries
all_meeting q entries always = ap (λ c. filter (λ (e : List ℕ × Fields). meets c false e.1) entries) always ∙ all_meet entries

-- without a condition and without an order a page is cut from all
pub whole_page : (q : Plan) (rows : List Row) → q.condition ≡ Always → q.order ≡ [] → without_fields (up_to q.size (drop q.start rows)) ≡ page q (without_fields rows)
whole_page q rows always plain =
    map-cut (λ (r : Row). (r.id, [])) q.start q.size rows
    ∙ ap (λ l. up_to q.size (drop q.start l)) (sym (ap (λ keys. sorted (λ (a b : List ℕ × Fields). keys_order keys a.1 b.1) (meeting q (without_fields rows))) plain ∙ (unsorted (meeting q (without_fields rows)) ∙ all_meeting q (without_fields rows) always)))

length-without : (rows : List Row) → length rows ≡ length (without_fields rows)
length-without [] = refl
length-without (r ∷ rows) = ap suc (length-without rows)

pub whole_total : (q : Plan) (rows : List Row) → q.condition ≡ Always → length rows ≡ length (meeting q (without_fields rows))
whole_total q rows always = length-without rows ∙ sym (ap length (all_meeting q (without_fields rows) always))

pub ids_without : (rows : List Row) → ids_of_rows rows ≡ map (λ e. e.0) (without_fields rows)
ids_without [] = refl
ids_without (r ∷ rows) = ap (λ (l : List (List ℕ)). r.id ∷ l) (ids_without rows)

-- ---- rows of a reduce

abbrev Lent : Type 0
Lent = Unit {0} × Bor Entry

abbrev pub row_lent : Lent → Fields
row_lent r = r.1.now

abbrev pub entry_lent : Lent → Unit {0} × Fields
entry_lent r = (r.0, r.1.now)

lent-without : (rows : List Lent) → map entry_lent rows ≡ without_ids (map row_lent rows)
lent-without [] = refl
lent-without (r ∷ rows) = ap (λ (l : List (Unit {0} × Fields)). (tt, r.1.now) ∷ l) (lent-without rows)

filter-without : (q : Plan) (rows : List Fields) → without_ids (filter (meets q.condition false) rows) ≡ meeting q (without_ids rows)
filter-without q [] = refl
filter-without q (r ∷ rows) = elim (meets q.condition false r) as (λ b. without_ids (cond b (r ∷ filter (meets q.condition false) rows) (filter (meets q.condition false) rows)) ≡ cond b ((tt, r) ∷ meeting q (without_ids rows)) (meeting q (without_ids rows))) [
  | true ↦ ap (λ (l : List (Unit {0} × Fields)). (tt, r) ∷ l) (filter-without q rows)
  | false ↦ filter-without q rows
]

length-lent : (rows : List Lent) → length rows ≡ length (map row_lent rows)
length-lent [] = refl
length-lent (r ∷ rows) = ap suc (length-lent rows)

length-ids : (rows : List Fields) → length rows ≡ length (without_ids rows)
length-ids [] = refl
length-ids (r ∷ rows) = ap suc (length-ids rows)

module _ (q : Plan) (rows : List Fields) (met : List Lent) (are : map row_lent met ≡ filter (meets q.condition false) rows) where
  met_meeting : map entry_lent met ≡ meeting q (without_ids rows)
  met_meeting = lent-without met ∙ (ap without_ids are ∙ filter-without q rows)

  pub rows_total : length met ≡ length (meeting q (without_ids rows))
  rows_total = length-lent met ∙ (ap length are ∙ (length-ids (filter (meets q.condition false) rows) ∙ ap length (filter-without q rows)))

  -- the rows of the page, sorted and cut
  pub rows_page : (ordered : List Lent) → ordered ≡ sorted (λ a b. keys_order q.order a.1.now b.1.now) met → map entry_lent (up_to q.size (drop q.start ordered)) ≡ page q (without_ids rows)
  rows_page ordered sorts =
      map-cut entry_lent q.start q.size ordered
      ∙ ap (λ l. up_to q.size (drop q.start l)) (ap (map entry_lent) sorts ∙ (map-sorted entry_lent (λ (a b : Unit {0} × Fields). keys_order q.order a.1 b.1) met ∙ ap (sorted (λ (a b : Unit {0} × Fields). keys_order q.order a.1 b.1)) met_meeting))

seconds : (rows : List Lent) → map row_lent rows ≡ map (λ (r : Unit {0} × Fields). r.1) (map entry_lent rows)
seconds [] = refl
seconds (r ∷ rows) = ap (λ (l : List Fields). r.1.now ∷ l) (seconds rows)

map-map : {A B C : Type 0} (g : B → C) (h : A → B) (xs : List A) → map g (map h xs) ≡ map (λ x. g (h x)) xs
map-map g h [] = refl
map-map g h (x ∷ xs) = ap (λ l. g (h x) ∷ l) (map-map g h xs)

module _ (show : Row → Data → Data) (at : List ℕ → Option Row) where
  by_rows : (paths : List Path) (rows : List (Unit {0} × Fields)) (found : Pairs) → included_by show at paths (map (λ r. r.1) rows) found ≡ f.included show at paths (map (λ r. text_in_row r.1) rows) found
  by_rows paths [] found = refl
  by_rows paths (r ∷ rows) found = by_rows paths rows (with_included show at (text_in_row r.1) paths found)

  -- what is found, from the rows of the page
  pub found_rows : (q : Plan) (rows page_of : List Fields) (ids : List (List ℕ)) (total : ℕ) (results : List Data) (includes : Pairs) → page_of ≡ map (λ r. r.1) (page q (without_ids rows)) → ids ≡ [] → total ≡ length (meeting q (without_ids rows))
      → results ≡ map (row_result q.columns) page_of → includes ≡ included_by show at q.includes page_of []
      → (let found : f.Found = record { ids = ids; total = total; results = results; includes = includes } in found) ≡ f.find_rows show at q (without_ids rows)
  found_rows q rows page_of ids total results includes is_page no_ids is_total is_results is_includes =
      let shown : results ≡ map (λ r. f.row_result show at q.columns r.1) (page q (without_ids rows)) = is_results ∙ (ap (map (row_result q.columns)) is_page ∙ map-map (row_result q.columns) (λ (r : Unit {0} × Fields). r.1) (page q (without_ids rows))) in
      let with_them : includes ≡ f.included show at q.includes (map (λ r. text_in_row r.1) (page q (without_ids rows))) [] = is_includes ∙ (ap (λ l. included_by show at q.includes l []) is_page ∙ by_rows q.includes (page q (without_ids rows)) []) in
      λ i. record { ids = no_ids i; total = is_total i; results = shown i; includes = with_them i }

pub page_rows : (q : Plan) (rows : List Fields) (cuts : List Lent) (page_of : List Fields) → page_of ≡ map row_lent cuts → map entry_lent cuts ≡ page q (without_ids rows) → page_of ≡ map (λ r. r.1) (page q (without_ids rows))
page_rows q rows cuts page_of is are = is ∙ (seconds cuts ∙ ap (map (λ (r : Unit {0} × Fields). r.1)) are)
