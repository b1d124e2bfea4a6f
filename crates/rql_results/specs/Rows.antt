-- What is shown of the rows of a reduce, and which documents they include.
use Rattle.std.specs.Prelude.{ℕ, List, [], ◌∷◌, Option}
use Rattle.spec_data.specs.Data.{Data}
use Rattle.spec_data.specs.Members.{Path}
use Rattle.spec_data.specs.Rising.{Pairs}
use Rattle.spec_data.specs.Rows.{Row}
use Rattle.index_tree.specs.Meaning.{Fields}
use Rattle.spec_query.specs.Plan.{Selected}
use Rattle.spec_query.specs.Results.{in_row, row_data, selected, text_in_row}
use Rattle.rql_results.specs.Documents.{with_included}

abbrev pub row_result : List Selected → Fields → Data
row_result columns fields = selected (row_data fields) (in_row fields) columns

module _ (show : Row → Data → Data) (at : List ℕ → Option Row) where
  -- the documents to which rows lead, one row after another
  abbrev pub included_by : List Path → List Fields → Pairs → Pairs
  included_by paths [] found = found
  included_by paths (r ∷ rows) found = included_by paths rows (with_included show at (text_in_row r) paths found)
