-- Documents that are found, and what the definitions say of them.
use Rattle.std.specs.Prelude.{ℕ, List, [], ◌∷◌, Option, None}
use Rattle.std.specs.Option.{option_and_then}
use Rattle.spec_data.specs.Data.{Data}
use Rattle.spec_data.specs.Folding.{folded}
use Rattle.spec_data.specs.Members.{Path}
use Rattle.spec_data.specs.Rising.{Pairs}
use Rattle.spec_data.specs.Rows.{Row}
use Rattle.spec_query.specs.Finding as finding
use Rattle.spec_query.specs.Plan.{Selected}
use Rattle.spec_query.specs.Results.{in_document, selected, text_in_document}
use Rattle.rql_results.specs.declared.documents.Found.{Found}

abbrev pub found_in : Found → Row × Data
found_in found = (found.row.now, found.document.now)

-- the document of an id, if there is one, where `at` gives the row of a folded id
abbrev pub document_of : (List ℕ → Option Row) → List ℕ → Option (Row × Data)
document_of at id = option_and_then finding.document_in (at (folded id))

-- `show` gives a document as it is shown to a client
abbrev pub result_of : (Row → Data → Data) → List Selected → Row × Data → Data
result_of show columns r = selected (show r.0 r.1) (in_document r.1) columns

abbrev pub with_document : (Row → Data → Data) → Option (Row × Data) → Pairs → Pairs
with_document show r found = finding.with_document show (λ id. None) r found

module _ (show : Row → Data → Data) (at : List ℕ → Option Row) where
  abbrev pub with_named : Option (List ℕ) → Pairs → Pairs
  with_named text found = finding.with_named show at text found

  abbrev pub with_included : (Path → Option (List ℕ)) → List Path → Pairs → Pairs
  with_included text_at paths found = finding.with_included show at text_at paths found

  -- the documents to which documents lead, one document after another
  abbrev pub included : List Path → List (Row × Data) → Pairs → Pairs
  included paths [] found = found
  included paths (r ∷ rows) found = included paths rows (with_included (text_in_document r.1) paths found)
