-- The pages of a database, and the rows of the router that finds them.
use Rattle.std.specs.Prelude.{◌≡◌, ℕ, List, [], ◌∷◌, ◌++◌, bytes_eq, codes, length, drop, nat_eq, nat_lt, if◌then◌else◌, Option, Some, None, Result, Ok, Err}
use Rattle.std.specs.List.{before_first, after_first, starts_with}
use Rattle.matchit.specs.Rows.{RowsOf, param_token}
use Rattle.matchit.specs.Router.{RouteOf}
use Rattle.http_parts.specs.Routes.{is_slash}
use Rattle.http_parts.specs.declared.page.Page.{Page}
use Rattle.http_parts.specs.declared.page.Page.TheVariants.{IndexAdmin, BulkDocuments, Documents, Staleness, Indexes, Queries, Stats}

-- what follows the name of a database and a slash
abbrev pub text_of : Page → List ℕ
text_of IndexAdmin = codes "admin/indexes"
text_of BulkDocuments = codes "bulk_docs"
text_of Documents = codes "docs"
text_of Staleness = codes "indexes/staleness"
text_of Indexes = codes "indexes"
text_of Queries = codes "queries"
text_of Stats = codes "stats"

-- the page of this text
abbrev pub page_of : List ℕ → Option Page
page_of text =
    if bytes_eq (codes "admin/indexes") text then Some IndexAdmin
    else if bytes_eq (codes "bulk_docs") text then Some BulkDocuments
    else if bytes_eq (codes "docs") text then Some Documents
    else if bytes_eq (codes "indexes/staleness") text then Some Staleness
    else if bytes_eq (codes "indexes") text then Some Indexes
    else if bytes_eq (codes "queries") text then Some Queries
    else if bytes_eq (codes "stats") text then Some Stats
    else None

-- a name has at least one byte
abbrev pub named : (name : List ℕ) → Option Page → Option Page
named name page = if nat_lt 0 (length name) then page else None

abbrev pub after_root : (rest : List ℕ) → Option Page
after_root rest = named (before_first is_slash rest) (page_of (after_first is_slash rest))

-- the page that a path names
abbrev pub page_at : (path : List ℕ) → Option Page
page_at path = if starts_with nat_eq path (codes "/databases/") then after_root (drop 11 path) else None

-- the row of a page
abbrev pub row_of : Page → List ℕ × RouteOf Page
row_of page = (
  codes "/databases/" ++ param_token ∷ codes "/" ++ text_of page,
  record {
    pattern = codes "/databases/" ++ param_token ∷ codes "/" ++ text_of page;
    text = codes "/databases/{db}/" ++ text_of page;
    names = (12, 14) ∷ [];
    value = page;
  },
)

-- in the order of a router: a longer text comes before its beginning
abbrev pub document_rows : RowsOf (RouteOf Page)
document_rows = row_of BulkDocuments ∷ row_of Documents ∷ row_of Queries ∷ row_of Stats ∷ []

abbrev pub rows : RowsOf (RouteOf Page)
rows = row_of IndexAdmin ∷ row_of BulkDocuments ∷ row_of Documents ∷ row_of Staleness ∷ row_of Indexes ∷ row_of Queries ∷ row_of Stats ∷ []

-- the value of a row that was found
abbrev pub value_of : Option (RouteOf Page) → Option Page
value_of None = None
value_of (Some row) = Some row.value
