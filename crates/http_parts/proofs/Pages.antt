-- The router finds the page that a path names, and the page has the routes of its text.
use Rattle.std.proofs.Common.{◌≡◌, ℕ, zero, suc, ◌+◌, List, [], ◌∷◌, length, drop, Option, Some, None, Bool, true, false, cond, ◌&&◌, ltb, refl, sym, ap, ◌∙◌, codes, not, option_map, nat_eq, ◌==◌, nat_lt, bytes_eq, arith}
use Rattle.std.specs.List.{starts_with, position_or_len, before_first, after_first}
use Rattle.std.specs.Cmp.Lexicographic.{bytes_decides}
use Rattle.std.proofs.lemmas.Bool.{true≢false}
use Rattle.std.proofs.lemmas.Bool.Decides.{nat_tests}
use Rattle.std.proofs.lemmas.List.{length-take-le}
use Rattle.std.proofs.lemmas.List.Sums.{prefix_len-le-length}
use Rattle.matchit.specs.Rows.{Rows, prepend}
use Rattle.matchit.specs.Seek.{first, same_text}
use Rattle.matchit.specs.Level.{IsText}
use Rattle.matchit.specs.Router.{RouteOf, rename, map_key}
use Rattle.matchit.proofs.RenameLemmas.{first-rename}
use Rattle.matchit.proofs.SeekLemmas.{first-prefix}
use Rattle.http_parts.specs.declared.page.Page.{Page}
use Rattle.http_parts.specs.declared.page.Page.TheVariants.{IndexAdmin, BulkDocuments, Documents, Staleness, Indexes, Queries, Stats}
use Rattle.http_parts.specs.declared.route.Route.{Route}
use Rattle.http_parts.specs.Pages.{page_at, page_of, row_of, rows, text_of, value_of}
use Rattle.http_parts.specs.Routes.{Row, is_slash, route_at, route_in, route_of}
use Rattle.http_parts.specs.Routes.{rows as all_rows}
use Rattle.http_parts.proofs.Walk.{AreTexts, bytes_are_small, exact, seek_exact, seek_param}

-- THE ROWS, WITH NUMBERS

abbrev tails : Rows
tails = (codes "/admin/indexes", 0) ∷ (codes "/bulk_docs", 1) ∷ (codes "/docs", 2) ∷ (codes "/indexes/staleness", 3) ∷ (codes "/indexes", 4) ∷ (codes "/queries", 5) ∷ (codes "/stats", 6) ∷ []

abbrev texts : Rows
texts = (codes "admin/indexes", 0) ∷ (codes "bulk_docs", 1) ∷ (codes "docs", 2) ∷ (codes "indexes/staleness", 3) ∷ (codes "indexes", 4) ∷ (codes "queries", 5) ∷ (codes "stats", 6) ∷ []

abbrev numbered : Rows
numbered = prepend (codes "/databases/") (prepend (256 ∷ []) tails)

tails_are_texts : AreTexts tails
tails_are_texts = (bytes_are_small (codes "/admin/indexes") refl, (bytes_are_small (codes "/bulk_docs") refl, (bytes_are_small (codes "/docs") refl, (bytes_are_small (codes "/indexes/staleness") refl, (bytes_are_small (codes "/indexes") refl, (bytes_are_small (codes "/queries") refl, (bytes_are_small (codes "/stats") refl, tt)))))))

texts_tail : (n : ℕ) (p : List ℕ) → IsText p → IsText (drop n p)
texts_tail zero p h = h
texts_tail (suc n) [] h = tt
texts_tail (suc n) (b ∷ p) h = texts_tail n p h.1

-- the texts begin behind the first slash
behind : (rest : List ℕ) → exact (drop (position_or_len is_slash rest) rest) tails ≡ exact (after_first is_slash rest) texts
behind [] = refl
behind (b ∷ rest) =
    elim (b == 47) as (λ v. (b == 47) ≡ v → exact (drop (cond (not v) (1 + position_or_len is_slash rest) 0) (b ∷ rest)) tails ≡ exact (drop (cond (not v) (1 + position_or_len is_slash rest) 0 + 1) (b ∷ rest)) texts) [
      | true ↦ λ e. let is : b ≡ 47 = grind (arith, nat_tests) in ap (λ n. exact (n ∷ rest) tails) is
      | false ↦ λ e.
          let n = position_or_len is_slash rest in
          let here : 1 + n ≡ suc n = omega arith in
          let past : suc (n + 1) ≡ 1 + n + 1 = omega arith in
          ap (λ k. exact (drop k (b ∷ rest)) tails) here ∙ behind rest ∙ ap (λ k. exact (drop k (b ∷ rest)) texts) past
    ] refl

-- the number of the page of a path
abbrev number_of : List ℕ → Option ℕ
number_of path = cond (starts_with nat_eq path (codes "/databases/")) (cond (ltb 0 (position_or_len is_slash (drop 11 path))) (exact (after_first is_slash (drop 11 path)) texts) None) None

walked : (path : List ℕ) → IsText path → first numbered path ≡ number_of path
walked path text =
    let rest = drop 11 path in
    first-prefix (codes "/databases/") (prepend (256 ∷ []) tails) path (bytes_are_small (codes "/databases/") refl)
    ∙ ap (λ o. cond (starts_with nat_eq path (codes "/databases/")) o None)
    (seek_param tails rest (refl, (refl, (refl, (refl, (refl, (refl, (refl, tt))))))) (omega arith) refl (texts_tail 11 path text)
    ∙ ap (λ o. cond (ltb 0 (position_or_len is_slash rest)) o None)
    (seek_exact tails (drop (position_or_len is_slash rest) rest) tails_are_texts ∙ behind rest))

abbrev numbered_route : ℕ → RouteOf Page
numbered_route n = cond (n == 0) (row_of IndexAdmin).1 (cond (n == 1) (row_of BulkDocuments).1 (cond (n == 2) (row_of Documents).1 (cond (n == 3) (row_of Staleness).1 (cond (n == 4) (row_of Indexes).1 (cond (n == 5) (row_of Queries).1 (row_of Stats).1)))))

same_rows : rows ≡ rename numbered_route numbered
same_rows = refl

pages : (a b c d e f g : Bool) → value_of (map_key numbered_route (cond a (Some 0) (cond b (Some 1) (cond c (Some 2) (cond d (Some 3) (cond e (Some 4) (cond f (Some 5) (cond g (Some 6) None)))))))) ≡ cond a (Some IndexAdmin) (cond b (Some BulkDocuments) (cond c (Some Documents) (cond d (Some Staleness) (cond e (Some Indexes) (cond f (Some Queries) (cond g (Some Stats) None))))))
pages true b c d e f g = refl
pages false true c d e f g = refl
pages false false true d e f g = refl
pages false false false true e f g = refl
pages false false false false true f g = refl
pages false false false false false true g = refl
pages false false false false false false true = refl
pages false false false false false false false = refl

page_is : (text : List ℕ) → value_of (map_key numbered_route (exact text texts)) ≡ page_of text
page_is text = pages (same_text (codes "admin/indexes") text) (same_text (codes "bulk_docs") text) (same_text (codes "docs") text) (same_text (codes "indexes/staleness") text) (same_text (codes "indexes") text) (same_text (codes "queries") text) (same_text (codes "stats") text)

name_length : (p : List ℕ) → length (before_first is_slash p) ≡ position_or_len is_slash p
name_length p = length-take-le (position_or_len is_slash p) p (prefix_len-le-length (λ b. not (is_slash b)) p)

through : (s v : Bool) (o : Option ℕ) → value_of (map_key numbered_route (cond s (cond v o None) None)) ≡ cond s (cond v (value_of (map_key numbered_route o)) None) None
through true true o = refl
through true false o = refl
through false v o = refl

-- the walk finds the page of the path
pub page_found : (path : List ℕ) → IsText path → value_of (first rows path) ≡ page_at path
page_found path text =
    let rest = drop 11 path in
    let root = starts_with nat_eq path (codes "/databases/") in
    ap (λ r. value_of (first r path)) same_rows
    ∙ ap value_of (first-rename numbered_route numbered path)
    ∙ ap (λ o. value_of (map_key numbered_route o)) (walked path text)
    ∙ through root (ltb 0 (position_or_len is_slash rest)) (exact (after_first is_slash rest) texts)
    ∙ ap (λ p. cond root (cond (ltb 0 (position_or_len is_slash rest)) p None) None) (page_is (after_first is_slash rest))
    ∙ ap (λ n. cond root (cond (ltb 0 n) (page_of (after_first is_slash rest)) None) None) (sym (name_length rest))

-- THE ROUTES OF A PAGE

-- the route of a page that was found
abbrev on_page : Option Page → List ℕ → Option Route
on_page None method = None
on_page (Some page) method = route_of method (text_of page)

-- no row has this text
abbrev HasNone : List ℕ → List Row → Type 0
HasNone text [] = Unit {0}
HasNone text (r ∷ rs) = (bytes_eq r.page text ≡ false) × HasNone text rs

no_row : (method text : List ℕ) (rs : List Row) → HasNone text rs → route_in rs method text ≡ None
no_row method text [] apart = refl
no_row method text (r ∷ rs) apart =
    ap (λ v. cond (bytes_eq method r.method && v) (Some r.route) (route_in rs method text)) (other (bytes_eq text r.page) refl) ∙ by (bytes_eq method r.method) ∙ no_row method text rs apart.1
  where
    other : (v : Bool) → bytes_eq text r.page ≡ v → bytes_eq text r.page ≡ false
    other false e = e
    other true e = absurd (true≢false (sym ((bytes_decides r.page text).1 (sym ((bytes_decides text r.page).0 e))) ∙ apart.0))

    by : (v : Bool) → cond (v && false) (Some r.route) (route_in rs method text) ≡ route_in rs method text
    by true = refl
    by false = refl

by_text : (page : Page) (text method : List ℕ) (rest : Option Page) → (bytes_eq (text_of page) text ≡ false → route_of method text ≡ on_page rest method)
    → route_of method text ≡ on_page (cond (bytes_eq (text_of page) text) (Some page) rest) method
by_text page text method rest more =
    elim (bytes_eq (text_of page) text) as (λ v. bytes_eq (text_of page) text ≡ v → route_of method text ≡ on_page (cond v (Some page) rest) method) [
      | true ↦ λ e. ap (route_of method) (sym ((bytes_decides (text_of page) text).0 e))
      | false ↦ more
    ] refl

-- a text that is no page has no route
routes_are : (text method : List ℕ) → route_of method text ≡ on_page (page_of text) method
routes_are text method =
    by_text IndexAdmin text method _ (λ admin. by_text BulkDocuments text method _ (λ bulk. by_text Documents text method _ (λ docs. by_text Staleness text method _ (λ stale. by_text Indexes text method _ (λ indexes. by_text Queries text method _ (λ queries. by_text Stats text method None (λ stats.
    no_row method text all_rows (docs, (docs, (docs, (bulk, (queries, (queries, (admin, (indexes, (indexes, (stale, (stats, tt))))))))))))))))))

-- the name of the database in a path that has one
abbrev database_in : List ℕ → List ℕ
database_in path = before_first is_slash (drop 11 path)

-- the routes of a path are those of its page
pub routed : (method path : List ℕ) → route_at method path ≡ option_map (λ route. (database_in path, route)) (on_page (page_at path) method)
routed method path =
    let text = after_first is_slash (drop 11 path) in
    ap (λ r. cond (starts_with nat_eq path (codes "/databases/")) (cond (nat_lt 0 (length (database_in path))) (option_map (λ route. (database_in path, route)) r) None) None) (routes_are text method)
    ∙ by (starts_with nat_eq path (codes "/databases/")) (nat_lt 0 (length (database_in path))) (page_of text)
  where
    by : (s n : Bool) (page : Option Page)
        → cond s (cond n (option_map {T = Route} {U = List ℕ × Route} (λ route. (database_in path, route)) (on_page page method)) None) None
        ≡ option_map (λ route. (database_in path, route)) (on_page (cond s (cond n page None) None) method)
    by true true page = refl
    by true false page = refl
    by false n page = refl

pub no_page : (method path : List ℕ) → None ≡ page_at path → None ≡ route_at method path
no_page method path none = sym (routed method path ∙ ap (λ page. option_map (λ route. (database_in path, route)) (on_page page method)) (sym none))

pub no_method : (method path : List ℕ) (page : Page) → Some page ≡ page_at path → None ≡ route_of method (text_of page) → None ≡ route_at method path
no_method method path page found none =
    sym (routed method path ∙ ap (λ page. option_map (λ route. (database_in path, route)) (on_page page method)) (sym found) ∙ ap (option_map (λ route. (database_in path, route))) (sym none))

pub on_route : (method path name : List ℕ) (page : Page) (route : Route) → Some page ≡ page_at path → Some route ≡ route_of method (text_of page) → name ≡ database_in path → Some (name, route) ≡ route_at method path
on_route method path name page route found is name_is =
    ap (λ n. Some (n, route)) name_is ∙ sym (routed method path ∙ ap (λ page. option_map (λ route. (database_in path, route)) (on_page page method)) (sym found) ∙ ap (option_map (λ route. (database_in path, route))) (sym is))

pub ruleset found = (no_page, no_method, on_route)
