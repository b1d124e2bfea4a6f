-- Which route of which database a method and a path are.
use Rattle.std.specs.Prelude.{ℕ, Bool, ◌&&◌, ◌==◌, nat_lt, nat_eq, List, [], ◌∷◌, length, drop, codes, bytes_eq, if◌then◌else◌, Option, Some, None, option_map}
use Rattle.std.specs.List.{before_first, after_first, starts_with}
use Rattle.http_parts.specs.declared.route.Route.{Route}
use Rattle.http_parts.specs.declared.route.Route.TheVariants.{PutDocument, DeleteDocument, GetDocument, Bulk, QueryByText, Query, DefineIndex, ListIndexes, RemoveIndex, Staleness, Stats}

-- a method, a page of a database, and the route that they are
pub record Row : Type 0 where
  pub method : List ℕ
  pub page : List ℕ
  pub route : Route

abbrev pub row : (method page : List ℕ) → Route → Row
row method page route = record { method = method; page = page; route = route }

-- all routes
abbrev pub rows : List Row
rows =
    row (codes "PUT") (codes "docs") PutDocument
    ∷ row (codes "DELETE") (codes "docs") DeleteDocument
    ∷ row (codes "GET") (codes "docs") GetDocument
    ∷ row (codes "POST") (codes "bulk_docs") Bulk
    ∷ row (codes "GET") (codes "queries") QueryByText
    ∷ row (codes "POST") (codes "queries") Query
    ∷ row (codes "PUT") (codes "admin/indexes") DefineIndex
    ∷ row (codes "GET") (codes "indexes") ListIndexes
    ∷ row (codes "DELETE") (codes "indexes") RemoveIndex
    ∷ row (codes "GET") (codes "indexes/staleness") Staleness
    ∷ row (codes "GET") (codes "stats") Stats
    ∷ []

-- the route of the first row of this method and page
abbrev pub route_in : List Row → (method page : List ℕ) → Option Route
route_in [] method page = None
route_in (r ∷ rows) method page = if bytes_eq method r.method && bytes_eq page r.page then Some r.route else route_in rows method page

abbrev pub route_of : (method page : List ℕ) → Option Route
route_of = route_in rows

abbrev pub is_slash : ℕ → Bool
is_slash b = b == 47

-- what follows `/databases/` is the name of a database, which has at least one byte, up to the first slash, and then a page
abbrev pub in_database : (method name page : List ℕ) → Option (List ℕ × Route)
in_database method name page = if nat_lt 0 (length name) then option_map (λ route. (name, route)) (route_of method page) else None

abbrev pub after_root : (method rest : List ℕ) → Option (List ℕ × Route)
after_root method rest = in_database method (before_first is_slash rest) (after_first is_slash rest)

-- the name of the database and the route of a method and a path, of which nothing is decoded
abbrev pub route_at : (method path : List ℕ) → Option (List ℕ × Route)
route_at method path = if starts_with nat_eq path (codes "/databases/") then after_root method (drop 11 path) else None
