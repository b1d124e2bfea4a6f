-- The grammar of queries.
use Rattle.std.specs.Prelude.{◌≡◌, ℕ, List, [], ◌∷◌, Bool, true, false, not, ◌&&◌, ◌||◌, ◌==◌, if◌then◌else◌, codes, Option, Some, None}
use Rattle.std.specs.Option.{option_and_then}
use Rattle.std.specs.Str.{bytes_eq, str_eq_ignore_ascii_case}
use Rattle.spec_data.specs.Members.{Path}
use Rattle.spec_query.specs.Query.{Origin, OfIndex, OfCollection, Field, Cond, Sort, Column, Query, is_of_index}
use Rattle.rql_tokens.specs.declared.key_words.KeyWord.TheVariants as k
use Rattle.rql_tokens.specs.declared.token.Token.{Token}
use Rattle.rql_tokens.specs.declared.token.Token.TheVariants as t
use Rattle.rql_tokens.specs.declared.token.Placed.{Placed}
use Rattle.rql_tokens.specs.Words.{Tokens, Is, name, part, quoted}
use Rattle.rql_grammar.specs.Fields.{SpellsList, SpellsPath, SpellsField}
use Rattle.rql_grammar.specs.Conditions.{Spells, Whole}

-- ---- what a query is about

-- a collection whose name begins with `@` cannot be asked, but for `@empty`
abbrev pub is_collection : List ℕ → Bool
is_collection [] = true
is_collection (b ∷ bs) = not (b == 64) || bytes_eq (b ∷ bs) (codes "@empty")

abbrev pub if_collection : List ℕ → Option (List ℕ)
if_collection n = if is_collection n then Some n else None

-- a name or a text that may be a collection
abbrev pub collection : Placed → Option (List ℕ)
collection x = option_and_then if_collection (part x)

-- source = "index" text | name | text
pub data SpellsSource : Tokens → Origin → Tokens → Type 0 where
  index : {r : Tokens} {i x : Placed} {n : List ℕ} → Is (t.Key k.Index) i → quoted x ≡ Some n → SpellsSource (i ∷ x ∷ r) (OfIndex n) r
  documents : {r : Tokens} {x : Placed} {n : List ℕ} → collection x ≡ Some n → SpellsSource (x ∷ r) (OfCollection n) r

-- ---- keys of an order

abbrev pub is_word : List ℕ → List ℕ → Bool
is_word word n = str_eq_ignore_ascii_case word n

-- "long" | "string": whether values are compared as numbers
abbrev pub long_of : List ℕ → Option Bool
long_of n = if is_word (codes "long") n then Some true else (if is_word (codes "string") n then Some false else None)

abbrev pub long : Placed → Option Bool
long x = option_and_then long_of (name x)

-- "asc" | "ascending" | "desc" | "descending": whether the greatest comes first
abbrev pub desc_of : List ℕ → Option Bool
desc_of n =
    if is_word (codes "asc") n || is_word (codes "ascending") n then Some false else (
    if is_word (codes "desc") n || is_word (codes "descending") n then Some true else None)

abbrev pub desc : Placed → Option Bool
desc x = option_and_then desc_of (name x)

-- [ "as" ("long" | "string") ]
pub data SpellsLong : Tokens → Bool → Tokens → Type 0 where
  as_text : {r : Tokens} → SpellsLong r false r
  as_told : {r : Tokens} {a x : Placed} {b : Bool} → Is (t.Key k.As) a → long x ≡ Some b → SpellsLong (a ∷ x ∷ r) b r

-- [ "asc" | "ascending" | "desc" | "descending" ]
pub data SpellsDesc : Tokens → Bool → Tokens → Type 0 where
  rising : {r : Tokens} → SpellsDesc r false r
  told : {r : Tokens} {x : Placed} {b : Bool} → desc x ≡ Some b → SpellsDesc (x ∷ r) b r

abbrev pub sort_of : Field → Bool → Bool → Sort
sort_of field l d = record { field = field; long = l; desc = d }

-- ord = field [ "as" ("long" | "string") ] [ "asc" | "ascending" | "desc" | "descending" ]
pub data SpellsSort : Tokens → Sort → Tokens → Type 0 where
  sort : {s m n r : Tokens} {a : Field} {l d : Bool} → SpellsField s a m → SpellsLong m l n → SpellsDesc n d r → SpellsSort s (sort_of a l d) r

-- ---- columns

-- [ "as" name ]
pub data SpellsNamed : Tokens → Option (List ℕ) → Tokens → Type 0 where
  unnamed : {r : Tokens} → SpellsNamed r None r
  named : {r : Tokens} {a x : Placed} {n : List ℕ} → Is (t.Key k.As) a → name x ≡ Some n → SpellsNamed (a ∷ x ∷ r) (Some n) r

abbrev pub column_of : Field → Option (List ℕ) → Column
column_of field n = record { field = field; name = n }

-- column = field [ "as" name ]
pub data SpellsColumn : Tokens → Column → Tokens → Type 0 where
  column : {s m r : Tokens} {a : Field} {n : Option (List ℕ)} → SpellsField s a m → SpellsNamed m n r → SpellsColumn s (column_of a n) r

-- ---- clauses

pub data Clause : Type 0 where
  Groups : List Path → Clause
  Where : Cond → Clause
  Orders : List Sort → Clause
  Columns : List Column → Clause
  Includes : List Path → Clause

-- the order in which clauses come
abbrev pub rank : Clause → ℕ
rank (Groups paths) = 1
rank (Where cond) = 2
rank (Orders sorts) = 3
rank (Columns columns) = 4
rank (Includes paths) = 5

pub data SpellsClause : Tokens → Clause → Tokens → Type 0 where
  -- group = "group" "by" path { "," path }
  grouping : {s r : Tokens} {g b : Placed} {paths : List Path} →
      Is (t.Key k.Group) g → Is (t.Key k.By) b → SpellsList t.Comma SpellsPath s paths r → SpellsClause (g ∷ b ∷ s) (Groups paths) r
  -- where = "where" cond
  filter : {s r : Tokens} {w : Placed} {a : Cond} → Is (t.Key k.Where) w → Spells Whole s a r → SpellsClause (w ∷ s) (Where a) r
  -- order = "order" "by" ord { "," ord }
  ordering : {s r : Tokens} {o b : Placed} {sorts : List Sort} →
      Is (t.Key k.Order) o → Is (t.Key k.By) b → SpellsList t.Comma SpellsSort s sorts r → SpellsClause (o ∷ b ∷ s) (Orders sorts) r
  -- select = "select" column { "," column }
  selecting : {s r : Tokens} {x : Placed} {columns : List Column} → Is (t.Key k.Select) x → SpellsList t.Comma SpellsColumn s columns r → SpellsClause (x ∷ s) (Columns columns) r
  -- include = "include" path { "," path }
  including : {s r : Tokens} {x : Placed} {paths : List Path} → Is (t.Key k.Include) x → SpellsList t.Comma SpellsPath s paths r → SpellsClause (x ∷ s) (Includes paths) r

-- a query so far, and the rank of its last clause, or 0
pub record Begun : Type 0 where
  pub query : Query
  pub passed : ℕ

abbrev pub begun : Origin → Begun
begun o = record { query = record { origin = o; groups = []; cond = None; sorts = []; columns = []; includes = [] }; passed = 0 }

-- the query with one clause more
abbrev pub with_clause : Query → Clause → Query
with_clause q (Groups paths) = record { origin = q.origin; groups = paths; cond = q.cond; sorts = q.sorts; columns = q.columns; includes = q.includes }
with_clause q (Where cond) = record { origin = q.origin; groups = q.groups; cond = Some cond; sorts = q.sorts; columns = q.columns; includes = q.includes }
with_clause q (Orders sorts) = record { origin = q.origin; groups = q.groups; cond = q.cond; sorts = sorts; columns = q.columns; includes = q.includes }
with_clause q (Columns columns) = record { origin = q.origin; groups = q.groups; cond = q.cond; sorts = q.sorts; columns = columns; includes = q.includes }
with_clause q (Includes paths) = record { origin = q.origin; groups = q.groups; cond = q.cond; sorts = q.sorts; columns = q.columns; includes = paths }

abbrev pub stepped : Begun → ℕ → Clause → Begun
stepped b n c = record { query = with_clause b.query c; passed = n }

abbrev pub further : Begun → Clause → Begun
further b c = stepped b (rank c) c

-- an index has no group: nothing of that rank follows its name
abbrev pub may_follow : Begun → ℕ → Bool
may_follow b n = not (is_of_index b.query && ((b.passed == 0) && (n == 1)))

-- ---- the whole text

-- clauses = { group | where | order | select | include }
-- Their order is a limit: one that is not of a higher rank than the one before it is refused at its first word.
pub data SpellsClauses (o : Origin) : Tokens → Begun → Tokens → Type 0 where
  no_clause : {r : Tokens} → SpellsClauses o r (begun o) r
  next_clause : {s m r : Tokens} {b : Begun} {c : Clause} → SpellsClauses o s b m → SpellsClause m c r → may_follow b (rank c) ≡ true → SpellsClauses o s (further b c) r

-- query = "from" source clauses, and the end of the text, behind which nothing counts
pub data SpellsQuery : Tokens → Query → Tokens → Type 0 where
  query : {s m r : Tokens} {x e : Placed} {o : Origin} {b : Begun} →
      Is (t.Key k.From) x → SpellsSource s o m → SpellsClauses o m b (e ∷ r) → Is t.End e → SpellsQuery (x ∷ s) b.query r
