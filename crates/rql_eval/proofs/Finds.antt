-- What is found, put together.
use Rattle.std.proofs.Common.{◌≡◌, ℕ, List, [], ◌∷◌, Option, map, length, refl, ap, ◌∙◌}
use Rattle.std.specs.List.{filter_map, cons_option}
use Rattle.spec_data.specs.Data.{Data}
use Rattle.spec_data.specs.Members.{Path}
use Rattle.spec_data.specs.Rising.{Pairs}
use Rattle.spec_data.specs.Rows.{Row}
use Rattle.index_tree.specs.Meaning.{Fields}
use Rattle.spec_query.specs.Finding as f
use Rattle.spec_query.specs.Plan.{Plan, meeting, page}
use Rattle.spec_query.specs.Results.{text_in_document}
use Rattle.std.specs.Borrow.{Bor}
use Rattle.map_stage.specs.declared.fields.Entry.{Entry}
use Rattle.raven_value.specs.declared.id.Id.{Id}
use Rattle.rql_results.specs.Documents.{document_of, included, result_of, with_included}

filter_map-map : {E F A : Type 0} (h : E → F) (k : F → Option A) (xs : List E) → filter_map k (map h xs) ≡ filter_map (λ x. k (h x)) xs
filter_map-map h k [] = refl
filter_map-map h k (x ∷ xs) = ap (cons_option (k (h x))) (filter_map-map h k xs)

module _ (show : Row → Data → Data) (at : List ℕ → Option Row) where
  by_texts : (paths : List Path) (rows : List (Row × Data)) (found : Pairs) → included show at paths rows found ≡ f.included show at paths (map (λ r. text_in_document r.1) rows) found
  by_texts paths [] found = refl
  by_texts paths (r ∷ rows) found = by_texts paths rows (with_included show at (text_in_document r.1) paths found)

  -- the parts of what is found, from the entries of the page
  pub found_parts : (q : Plan) (entries entries_of_page : List (List ℕ × Fields)) (ids : List (List ℕ)) (total : ℕ) (documents : List (Row × Data)) (results : List Data) (includes : Pairs)
      → entries_of_page ≡ page q entries → ids ≡ map (λ e. e.0) entries_of_page → total ≡ length (meeting q entries) → documents ≡ filter_map (document_of at) ids
      → results ≡ map (result_of show q.columns) documents → includes ≡ included show at q.includes documents []
      → (let found : f.Found = record { ids = ids; total = total; results = results; includes = includes } in found) ≡ f.find_entries show at q entries
  found_parts q entries entries_of_page ids total documents results includes is_page is_ids is_total is_documents is_results is_includes =
      let of_page : ids ≡ map (λ e. e.0) (page q entries) = is_ids ∙ ap (map (λ e. e.0)) is_page in
      let docs : documents ≡ f.documents_of show at (page q entries) = is_documents ∙ (ap (filter_map (document_of at)) of_page ∙ filter_map-map (λ (e : List ℕ × Fields). e.0) (document_of at) (page q entries)) in
      let shown : results ≡ map (f.document_result show at q.columns) (f.documents_of show at (page q entries)) = is_results ∙ ap (map (result_of show q.columns)) docs in
      let with_them : includes ≡ f.included show at q.includes (map (λ r. text_in_document r.1) (f.documents_of show at (page q entries))) [] =
      is_includes ∙ (by_texts q.includes documents [] ∙ ap (λ d. f.included show at q.includes (map (λ r. text_in_document r.1) d) []) docs) in
      λ i. record { ids = of_page i; total = is_total i; results = shown i; includes = with_them i }

-- the ids of entries that are lent
abbrev pub id_lent : Bor Id × Bor Entry → List ℕ
id_lent e = e.0.now

abbrev pub entry_lent : Bor Id × Bor Entry → List ℕ × Fields
entry_lent e = (e.0.now, e.1.now)

pub ids_in : (entries : List (Bor Id × Bor Entry)) → map id_lent entries ≡ map (λ e. e.0) (map entry_lent entries)
ids_in [] = refl
ids_in (e ∷ entries) = ap (λ (l : List (List ℕ)). e.0.now ∷ l) (ids_in entries)
