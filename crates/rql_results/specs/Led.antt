-- The documents to which documents and rows lead, in the order in which they do, and what is shown of them.
use Rattle.std.specs.Prelude.{ℕ, List, [], ◌∷◌, ◌++◌, if◌then◌else◌, Option, Some, None}
use Rattle.std.specs.List.{filter_map}
use Rattle.spec_data.specs.Data.{Data}
use Rattle.spec_data.specs.Faults.{is_fit}
use Rattle.spec_data.specs.Limits.{max_id}
use Rattle.spec_data.specs.Members.{Path}
use Rattle.spec_data.specs.Rising.{Pairs, put}
use Rattle.spec_data.specs.Rows.{Row}
use Rattle.index_tree.specs.Meaning.{Fields}
use Rattle.spec_query.specs.Results.{text_in_document, text_in_row}
use Rattle.rql_results.specs.Documents.{document_of}

module _ (at : List ℕ → Option Row) where
  -- the document whose id the text is
  abbrev pub led_to : Option (List ℕ) → Option (Row × Data)
  led_to None = None
  led_to (Some id) = if is_fit max_id id then document_of at id else None

  -- those of the texts at the paths
  abbrev pub led_by : (Path → Option (List ℕ)) → List Path → List (Row × Data)
  led_by text_at paths = filter_map (λ path. led_to (text_at path)) paths

  abbrev pub led_by_documents : List Path → List (Row × Data) → List (Row × Data)
  led_by_documents paths [] = []
  led_by_documents paths (r ∷ rows) = led_by (text_in_document r.1) paths ++ led_by_documents paths rows

  abbrev pub led_by_rows : List Path → List Fields → List (Row × Data)
  led_by_rows paths [] = []
  led_by_rows paths (r ∷ rows) = led_by (text_in_row r) paths ++ led_by_rows paths rows

-- each document as it is shown, under the id as its row spells it; of two under one id the later one counts
abbrev pub with_all : (Row → Data → Data) → List (Row × Data) → Pairs → Pairs
with_all show [] members = members
with_all show (r ∷ rows) members = with_all show rows (put r.0.id (show r.0 r.1) members)
