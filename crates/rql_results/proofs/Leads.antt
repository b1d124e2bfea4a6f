-- What the documents that are led to show is what the definitions of includes say.
use Rattle.std.proofs.Common.{◌≡◌, ℕ, List, [], ◌∷◌, ◌++◌, true, false, cond, Option, Some, None, refl, ap, ◌∙◌}
use Rattle.std.specs.List.{cons_option}
use Rattle.spec_data.specs.Data.{Data}
use Rattle.spec_data.specs.Faults.{is_fit}
use Rattle.spec_data.specs.Limits.{max_id}
use Rattle.spec_data.specs.Members.{Path}
use Rattle.spec_data.specs.Rising.{Pairs}
use Rattle.spec_data.specs.Rows.{Row}
use Rattle.index_tree.specs.Meaning.{Fields}
use Rattle.spec_query.specs.Results.{text_in_document, text_in_row}
use Rattle.rql_results.specs.Documents.{document_of, included, with_document, with_included, with_named}
use Rattle.rql_results.specs.Led.{led_by, led_by_documents, led_by_rows, led_to, with_all}
use Rattle.rql_results.specs.Rows.{included_by}

in_front : {A : Type 0} (o : Option A) (xs ys : List A) → cons_option o xs ++ ys ≡ cons_option o (xs ++ ys)
in_front None xs ys = refl
in_front (Some x) xs ys = refl

module _ (show : Row → Data → Data) (at : List ℕ → Option Row) where
  named_is : (text : Option (List ℕ)) (more : List (Row × Data)) (found : Pairs) → with_all show (cons_option (led_to at text) more) found ≡ with_all show more (with_named show at text found)
  named_is None more found = refl
  named_is (Some id) more found =
      elim (is_fit max_id id) as (λ b. with_all show (cons_option (cond b (document_of at id) None) more) found ≡ with_all show more (cond b (with_document show (document_of at id) found) found)) [
        | true ↦ elim (document_of at id) as (λ o. with_all show (cons_option o more) found ≡ with_all show more (with_document show o found)) [ None ↦ refl | Some r ↦ refl ]
        | false ↦ refl
      ]

  paths_are : (text_at : Path → Option (List ℕ)) (paths : List Path) (more : List (Row × Data)) (found : Pairs) → with_all show (led_by at text_at paths ++ more) found ≡ with_all show more (with_included show at text_at paths found)
  paths_are text_at [] more found = refl
  paths_are text_at (path ∷ paths) more found =
      ap (λ rows. with_all show rows found) (in_front (led_to at (text_at path)) (led_by at text_at paths) more)
      ∙ named_is (text_at path) (led_by at text_at paths ++ more) found
      ∙ paths_are text_at paths more (with_named show at (text_at path) found)

  pub documents_are : (paths : List Path) (rows : List (Row × Data)) (found : Pairs) → with_all show (led_by_documents at paths rows) found ≡ included show at paths rows found
  documents_are paths [] found = refl
  documents_are paths (r ∷ rows) found =
      paths_are (text_in_document r.1) paths (led_by_documents at paths rows) found ∙ documents_are paths rows (with_included show at (text_in_document r.1) paths found)

  pub rows_are : (paths : List Path) (rows : List Fields) (found : Pairs) → with_all show (led_by_rows at paths rows) found ≡ included_by show at paths rows found
  rows_are paths [] found = refl
  rows_are paths (r ∷ rows) found =
      paths_are (text_in_row r) paths (led_by_rows at paths rows) found ∙ rows_are paths rows (with_included show at (text_in_row r) paths found)
