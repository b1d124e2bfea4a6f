-- What a query finds in an index or in a collection.
use Rattle.std.specs.Prelude.{ℕ, List, [], ◌∷◌, Bool, ◌&&◌, if◌then◌else◌, Option, Some, None, length, filter, map}
use Rattle.std.specs.FinMap.{values}
use Rattle.std.specs.List.{filter_map}
use Rattle.std.specs.Option.{option_and_then}
use Rattle.std.specs.Str.{bytes_eq}
use Rattle.spec_data.specs.Data.{Data}
use Rattle.spec_data.specs.Faults.{is_fit}
use Rattle.spec_data.specs.Folding.{folded}
use Rattle.spec_data.specs.Limits.{max_id}
use Rattle.spec_data.specs.Members.{Path}
use Rattle.spec_data.specs.Rising.{Pairs, put}
use Rattle.spec_data.specs.Rows.{Row, doc, gone, is_document}
use Rattle.spec_data.specs.Tables.{table_of}
use Rattle.spec_store.specs.Store.{Store, row_at}
use Rattle.index_tree.specs.Meaning.{Fields}
use Rattle.spec_query.specs.Plan.{Plan, Selected, meeting, page}
use Rattle.spec_query.specs.Results.{selected, in_document, in_row, row_data, text_in_document, text_in_row}

pub record Found : Type 0 where
  -- of the rows of the page, also of those whose document is gone
  pub ids : List (List ℕ)
  -- how many rows meet the condition
  pub total : ℕ
  pub results : List Data
  -- the included documents under their ids
  pub includes : Pairs

-- a row with its document; a tombstone has none
abbrev pub document_in : Row → Option (Row × Data)
document_in r = elim r.body [ doc d ↦ Some (r, d) | gone ↦ None ]

-- `show` gives a document as it is shown to a client, with what the server adds; `at` gives the row of a folded id, if there is one
module _ (show : Row → Data → Data) (at : List ℕ → Option Row) where
  abbrev pub document_at : List ℕ → Option (Row × Data)
  document_at id = option_and_then document_in (at (folded id))

  -- INCLUDES

  -- under the id as its row spells it
  abbrev pub with_document : Option (Row × Data) → Pairs → Pairs
  with_document None found = found
  with_document (Some r) found = put r.0.id (show r.0 r.1) found

  -- a text leads to a document if it is a valid id
  abbrev pub with_named : Option (List ℕ) → Pairs → Pairs
  with_named None found = found
  with_named (Some id) found = if is_fit max_id id then with_document (document_at id) found else found

  -- with the documents that the texts at the paths lead to
  abbrev pub with_included : (Path → Option (List ℕ)) → List Path → Pairs → Pairs
  with_included text_at [] found = found
  with_included text_at (path ∷ paths) found = with_included text_at paths (with_named (text_at path) found)

  -- those of all results
  abbrev pub included : List Path → List (Path → Option (List ℕ)) → Pairs → Pairs
  included paths [] found = found
  included paths (text_at ∷ more) found = included paths more (with_included text_at paths found)

  -- AN INDEX WITHOUT A REDUCE, whose entries come in the order of their folded ids

  -- the documents of the entries; an entry whose document was deleted since is passed over
  abbrev pub documents_of : List (List ℕ × Fields) → List (Row × Data)
  documents_of entries = filter_map (λ e. document_at e.0) entries

  abbrev pub document_result : List Selected → Row × Data → Data
  document_result columns r = selected (show r.0 r.1) (in_document r.1) columns

  abbrev pub find_entries : Plan → List (List ℕ × Fields) → Found
  find_entries q entries = record {
    ids = map (λ e. e.0) (page q entries);
    total = length (meeting q entries);
    results = map (document_result q.columns) (documents_of (page q entries));
    includes = included q.includes (map (λ r. text_in_document r.1) (documents_of (page q entries))) [];
  }

  -- AN INDEX WITH A REDUCE, whose rows come in the order of their group keys

  abbrev pub row_result : List Selected → Fields → Data
  row_result columns fields = selected (row_data fields) (in_row fields) columns

  abbrev pub find_rows : Plan → List (Unit {0} × Fields) → Found
  find_rows q rows = record {
    ids = [];
    total = length (meeting q rows);
    results = map (λ r. row_result q.columns r.1) (page q rows);
    includes = included q.includes (map (λ r. text_in_row r.1) (page q rows)) [];
  }

-- IN A STORE

abbrev pub found_in_index : (Row → Data → Data) → Plan → List (List ℕ × Fields) → Store → Found
found_in_index show q entries S = find_entries show (λ id. row_at id S.rows) q entries

abbrev pub found_in_groups : (Row → Data → Data) → Plan → List (Unit {0} × Fields) → Store → Found
found_in_groups show q rows S = find_rows show (λ id. row_at id S.rows) q rows

-- A WHOLE COLLECTION, whose documents come in the order of their folded ids

abbrev pub is_document_of : List ℕ → Row → Bool
is_document_of collection r = bytes_eq r.collection collection && is_document r

-- each document as an entry without fields
abbrev pub entries_of_collection : List ℕ → Store → List (List ℕ × Fields)
entries_of_collection collection S = map (λ r. (r.id, [])) (values (table_of (filter (is_document_of collection) S.rows)))

abbrev pub found_in_collection : (Row → Data → Data) → Plan → List ℕ → Store → Found
found_in_collection show q collection S = found_in_index show q (entries_of_collection collection S) S
