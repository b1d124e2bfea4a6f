-- The paths that a UTF-8 text of a query names can be those of an index.
use Rattle.std.proofs.Common.{◌≡◌, ℕ, ◌+◌, ◌<◌, List, [], ◌∷◌, ◌++◌, Bool, true, false, cond, nat_lt, length, Option, Some, None, Ok, IsUtf8, refl, subst, arith}
use Rattle.std.proofs.lemmas.List.{length-append}
use Rattle.std.specs.Option.{option_and_then}
use Rattle.exact_parse.specs.Limits.{Fine, Over, and_fine, counts, opens}
use Rattle.spec_data.specs.Members.{Path}
use Rattle.spec_query.specs.Fields.{cond_fields}
use Rattle.spec_query.specs.Query.{Cond, Field, Operand, Origin, Query, Sort, Column}
use Rattle.rql_tokens.specs.declared.token.Placed.{Placed}
use Rattle.rql_tokens.specs.declared.token.Token.{Token}
use Rattle.rql_tokens.specs.declared.token.Token.TheVariants as t
use Rattle.rql_tokens.specs.Tokens.{tokens_of}
use Rattle.rql_tokens.specs.Words.{Tokens, part}
use Rattle.rql_grammar.specs.Reads.{large, late, unexpected}
use Rattle.rql_grammar.specs.Fields.{SpellsList, one, more, SpellsPart, one_part, SpellsPath, SpellsField, at_path, count, sum, SpellsValue, written, parameter}
use Rattle.rql_grammar.specs.Conditions.{SpellsTested, tested, Rule, Spells, conj, either, neg, both, denied, test, parens, exact, always, starts, exists, compare, between, among}
use Rattle.rql_grammar.specs.Queries.{SpellsSource, index, documents, if_collection, is_collection, SpellsLong, as_text, as_told, SpellsDesc, rising, told, SpellsSort, sort, SpellsNamed, unnamed, named, SpellsColumn, column, Clause, Groups, Where, Orders, Columns, Includes, rank, SpellsClause, grouping, filter, ordering, selecting, including, Begun, with_clause, SpellsClauses, no_clause, next_clause, SpellsQuery, query}
use Rattle.rql_grammar.specs.Limits.{Judged, clause_verdict, clauses_verdict, column_verdict, counted_path_verdict, field_verdict, in_turn, inside_verdict, is_part, limit, list_verdict, most_fields, most_open, part_verdict, path_verdict, sort_verdict, tested_verdict, verdict}
use Rattle.rql_parser.specs.Parse.{IsOfLength, most_bytes}
use Rattle.raven_lines.specs.SaysQuery.{SaysQuery}
use Rattle.raven_reading.specs.Requests.{AreAll, AreFields, IsAsked, IsField, IsOrigin, IsPart, IsPath, ArePaths}
use Rattle.raven_reading.proofs.TokenLemmas.{HaveUtf8, part-utf8, text-utf8}

pub all-append : {A : Type 0} (P : A → Type 0) (xs ys : List A) → AreAll P xs → AreAll P ys → AreAll P (xs ++ ys)
all-append P [] ys h g = g
all-append P (x ∷ xs) ys h g = (h.0, all-append P xs ys h.1 g)

-- WITHIN LIMITS

fine-both : (w : Judged) (f : ℕ → Judged) (n : ℕ) → and_fine w f ≡ Fine n → (k : ℕ) × (w ≡ Fine k) × (f k ≡ Fine n)
fine-both (Fine c) f n e = (c, refl, e)
fine-both (Over k p) f n e = absurd cc

fine-counted : (c n : ℕ) (s : Tokens) (f : ℕ → Judged) → counts large most_fields c s f ≡ Fine n → f (c + 1) ≡ Fine n
fine-counted c n s f e = elim (nat_lt c most_fields) as (λ b. cond b (f (c + 1)) (Over large s) ≡ Fine n → f (c + 1) ≡ Fine n) [ true ↦ λ g. g | false ↦ λ g. absurd cc ] e

fine-opened : (room n : ℕ) (s : Tokens) (f : ℕ → Judged) → opens large room s f ≡ Fine n → (m : ℕ) × (f m ≡ Fine n)
fine-opened ℕ.zero n s f e = absurd cc
fine-opened (ℕ.suc room) n s f e = (room, e)

fine-turn : (passed n k : ℕ) (s : Tokens) (v : Judged) → in_turn passed n s v ≡ Fine k → v ≡ Fine k
fine-turn passed n k s v e = elim (nat_lt passed n) as (λ b. cond b v (Over late s) ≡ Fine k → v ≡ Fine k) [ true ↦ λ g. g | false ↦ λ g. absurd cc ] e

-- LISTS

-- what is spelled is as P says, and what follows it is UTF-8
abbrev Gives : {A : Type 0} → (A → Type 0) → A → Tokens → Type 0
Gives P a r = P a × HaveUtf8 r

module _ {A : Type 0} (u : Token) (X : Tokens → A → Tokens → Type 0) (v : (s : Tokens) (a : A) (r : Tokens) → X s a r → ℕ → Judged) (P : A → Type 0)
    (each : (s : Tokens) (a : A) (r : Tokens) (x : X s a r) (c n : ℕ) → HaveUtf8 s → v s a r x c ≡ Fine n → Gives P a r) where
  list-gives : {s r : Tokens} {found : List A} (x : SpellsList u X s found r) (c n : ℕ) → HaveUtf8 s → list_verdict v x c ≡ Fine n → Gives (AreAll P) found r
  list-gives (one {s = s} {r = r} {a = a} x) c n h e = let y = each s a r x c n h e in ((y.0, tt), y.1)
  list-gives (more {m = m} {r = r} {found = found} {a = a} x is y) c n h e =
      let k = fine-both (list_verdict v x c) (λ c. v m a r y c) n e in
      let front = list-gives x c k.0 h k.1 in
      let last = each m a r y k.0 n front.1.1 k.2 in (all-append P found (a ∷ []) front.0 (last.0, tt), last.1)

list-some : {A : Type 0} {u : Token} {X : Tokens → A → Tokens → Type 0} {s r : Tokens} {found : List A} → SpellsList u X s found r → 0 < length found
list-some (one x) = omega arith
list-some (more {found = found} {a = a} x is y) = let long = length-append found (a ∷ []) in omega arith

-- what follows a list of what says nothing of paths
list-behind : {A : Type 0} {u : Token} {X : Tokens → A → Tokens → Type 0} → ((s : Tokens) (a : A) (r : Tokens) → X s a r → HaveUtf8 s → HaveUtf8 r)
    → {s r : Tokens} {found : List A} → SpellsList u X s found r → HaveUtf8 s → HaveUtf8 r
list-behind each (one {s = s} {r = r} {a = a} x) h = each s a r x h
list-behind each (more {m = m} {r = r} {a = a} x is y) h = each m a r y (list-behind each x h).1

-- PATHS AND FIELDS

part-gives : (s : Tokens) (n : List ℕ) (r : Tokens) (x : SpellsPart s n r) (c k : ℕ) → HaveUtf8 s → part_verdict s n r x c ≡ Fine k → Gives IsPart n r
part-gives s n r (one_part {x = x} is) c k h e = elim (is_part n) as (λ b. is_part n ≡ b → cond b (Fine c) (Over unexpected s) ≡ Fine k → Gives IsPart n r) [
  | true ↦ λ f g. ((part-utf8 x n h.0 is, f), h.1)
  | false ↦ λ f g. absurd cc
] refl e

path-gives : (s : Tokens) (path : Path) (r : Tokens) (x : SpellsPath s path r) (c n : ℕ) → HaveUtf8 s → path_verdict s path r x c ≡ Fine n → Gives IsPath path r
path-gives s path r x c n h e = let y = list-gives t.Point SpellsPart part_verdict IsPart part-gives x c n h e in ((list-some x, y.0), y.1)

counted-gives : (s : Tokens) (path : Path) (r : Tokens) (x : SpellsPath s path r) (c n : ℕ) → HaveUtf8 s → counted_path_verdict s path r x c ≡ Fine n → Gives IsPath path r
counted-gives s path r x c n h e = path-gives s path r x (c + 1) n h (fine-counted c n s (path_verdict s path r x) e)

inside-gives : (s : Tokens) (a : Field) (r : Tokens) (x : SpellsField s a r) (c n : ℕ) → HaveUtf8 s → inside_verdict s a r x c ≡ Fine n → Gives IsField a r
inside-gives s a r (at_path {s = m} {x = y} {path = path} free x) c n h e = path-gives (y ∷ m) path r x c n h e
inside-gives s a r (count call is also) c n h e = (tt, h.1.1.1)
inside-gives s a r (sum {s = m} {q = q} {path = path} call is x also) c n h e = let y = path-gives m path (q ∷ r) x c n h.1.1 e in (y.0, y.1.1)

field-gives : (s : Tokens) (a : Field) (r : Tokens) (x : SpellsField s a r) (c n : ℕ) → HaveUtf8 s → field_verdict s a r x c ≡ Fine n → Gives IsField a r
field-gives s a r x c n h e = inside-gives s a r x (c + 1) n h (fine-counted c n s (inside_verdict s a r x) e)

tested-gives : {s r : Tokens} {a : Field} (x : SpellsTested s a r) (c n : ℕ) → HaveUtf8 s → tested_verdict x c ≡ Fine n → Gives IsField a r
tested-gives (tested {s = s} {r = r} {x = x} {a = a} free y) c n h e = field-gives (x ∷ s) a r y c n h e

value-behind : (s : Tokens) (v : Operand) (r : Tokens) → SpellsValue s v r → HaveUtf8 s → HaveUtf8 r
value-behind s v r (written is) h = h.1
value-behind s v r (parameter is also) h = h.1.1

-- CONDITIONS

abbrev IsCond : Cond → Type 0
IsCond a = AreFields (cond_fields a)

cond-gives : {rule : Rule} {s r : Tokens} {a : Cond} (x : Spells rule s a r) (room c n : ℕ) → HaveUtf8 s → verdict x room c ≡ Fine n → Gives IsCond a r
cond-gives (conj x) room c n h e = cond-gives x room c n h e
cond-gives (either {a = a} {b = b} x is y) room c n h e =
    let k = fine-both (verdict x room c) (λ c. verdict y room c) n e in
    let front = cond-gives x room c k.0 h k.1 in
    let last = cond-gives y room k.0 n front.1.1 k.2 in (all-append IsField (cond_fields a) (cond_fields b) front.0 last.0, last.1)
cond-gives (neg x) room c n h e = cond-gives x room c n h e
cond-gives (both {a = a} {b = b} x is y) room c n h e =
    let k = fine-both (verdict x room c) (λ c. verdict y room c) n e in
    let front = cond-gives x room c k.0 h k.1 in
    let last = cond-gives y room k.0 n front.1.1 k.2 in (all-append IsField (cond_fields a) (cond_fields b) front.0 last.0, last.1)
cond-gives (denied {s = s} {o = o} is x) room c n h e = let m = fine-opened room n (o ∷ s) (λ room. verdict x room c) e in cond-gives x m.0 c n h.1 m.1
cond-gives (test x) room c n h e = cond-gives x room c n h e
cond-gives (parens {s = s} {p = p} is x also) room c n h e =
    let m = fine-opened room n (p ∷ s) (λ room. verdict x room c) e in let y = cond-gives x m.0 c n h.1 m.1 in (y.0, y.1.1)
cond-gives (exact {s = s} {x = x} {p = p} word is y also) room c n h e =
    let m = fine-opened room n (x ∷ p ∷ s) (λ room. verdict y room c) e in let z = cond-gives y m.0 c n h.1.1 m.1 in (z.0, z.1.1)
cond-gives (always is) room c n h e = (tt, h.1)
cond-gives (starts {s = s} {m = m} {r = r} {c = k} {q = q} {a = a} {v = v} word is x comma w also) room c n h e =
    let y = field-gives s a (k ∷ m) x c n h.1.1 e in ((y.0, tt), (value-behind m v (q ∷ r) w y.1.1).1)
cond-gives (exists {s = s} {r = r} {q = q} {a = a} word is x also) room c n h e = let y = field-gives s a (q ∷ r) x c n h.1.1 e in ((y.0, tt), y.1.1)
cond-gives (compare {m = m} {r = r} {v = v} x is w) room c n h e = let y = tested-gives x c n h e in ((y.0, tt), value-behind m v r w y.1.1)
cond-gives (between {m = m} {n = l} {r = r} {c = k} {v = v} {w = w} x is p word q) room c n h e =
    let y = tested-gives x c n h e in ((y.0, tt), value-behind l w r q (value-behind m v (k ∷ l) p y.1.1).1)
cond-gives (among x is opening vs also) room c n h e = let y = tested-gives x c n h e in ((y.0, tt), (list-behind value-behind vs y.1.1.1).1)

-- CLAUSES

abbrev IsSort : Sort → Type 0
IsSort s = IsField s.field

abbrev IsColumn : Column → Type 0
IsColumn c = IsField c.field

long-behind : {s r : Tokens} {b : Bool} → SpellsLong s b r → HaveUtf8 s → HaveUtf8 r
long-behind as_text h = h
long-behind (as_told is also) h = h.1.1

desc-behind : {s r : Tokens} {b : Bool} → SpellsDesc s b r → HaveUtf8 s → HaveUtf8 r
desc-behind rising h = h
desc-behind (told is) h = h.1

named-behind : {s r : Tokens} {n : Option (List ℕ)} → SpellsNamed s n r → HaveUtf8 s → HaveUtf8 r
named-behind unnamed h = h
named-behind (named is also) h = h.1.1

sort-gives : (s : Tokens) (a : Sort) (r : Tokens) (x : SpellsSort s a r) (c n : ℕ) → HaveUtf8 s → sort_verdict s a r x c ≡ Fine n → Gives IsSort a r
sort-gives s b r (sort {m = m} {a = a} x l d) c n h e = let y = field-gives s a m x c n h e in (y.0, desc-behind d (long-behind l y.1))

column-gives : (s : Tokens) (a : Column) (r : Tokens) (x : SpellsColumn s a r) (c n : ℕ) → HaveUtf8 s → column_verdict s a r x c ≡ Fine n → Gives IsColumn a r
column-gives s b r (column {m = m} {a = a} x l) c n h e = let y = field-gives s a m x c n h e in (y.0, named-behind l y.1)

abbrev IsClause : Clause → Type 0
IsClause (Groups paths) = ArePaths paths
IsClause (Where a) = IsCond a
IsClause (Orders sorts) = AreAll IsSort sorts
IsClause (Columns columns) = AreAll IsColumn columns
IsClause (Includes paths) = ArePaths paths

clause-gives : {s r : Tokens} {a : Clause} (x : SpellsClause s a r) (c n : ℕ) → HaveUtf8 s → clause_verdict x c ≡ Fine n → Gives IsClause a r
clause-gives (grouping is also x) c n h e = list-gives t.Comma SpellsPath counted_path_verdict IsPath counted-gives x c n h.1.1 e
clause-gives (filter is x) c n h e = cond-gives x most_open c n h.1 e
clause-gives (ordering is also x) c n h e = list-gives t.Comma SpellsSort sort_verdict IsSort sort-gives x c n h.1.1 e
clause-gives (selecting is x) c n h e = list-gives t.Comma SpellsColumn column_verdict IsColumn column-gives x c n h.1 e
clause-gives (including is x) c n h e = list-gives t.Comma SpellsPath counted_path_verdict IsPath counted-gives x c n h.1 e

-- the query with one clause more
with-asked : (q : Query) (c : Clause) → IsAsked q → IsClause c → IsAsked (with_clause q c)
with-asked q (Groups paths) a h = record { origin = a.origin; groups = h; cond = a.cond; sorts = a.sorts; columns = a.columns }
with-asked q (Where b) a h = record { origin = a.origin; groups = a.groups; cond = h; sorts = a.sorts; columns = a.columns }
with-asked q (Orders sorts) a h = record { origin = a.origin; groups = a.groups; cond = a.cond; sorts = h; columns = a.columns }
with-asked q (Columns columns) a h = record { origin = a.origin; groups = a.groups; cond = a.cond; sorts = a.sorts; columns = h }
with-asked q (Includes paths) a h = record { origin = a.origin; groups = a.groups; cond = a.cond; sorts = a.sorts; columns = a.columns }

clauses-give : {o : Origin} {s r : Tokens} {b : Begun} (x : SpellsClauses o s b r) (n : ℕ) → IsOrigin o → HaveUtf8 s → clauses_verdict x ≡ Fine n → Gives IsAsked b.query r
clauses-give no_clause n from h e = (record { origin = from; groups = tt; cond = tt; sorts = tt; columns = tt }, h)
clauses-give (next_clause {m = m} {b = b} {c = c} x y may) n from h e =
    let k = fine-both (clauses_verdict x) (λ n. in_turn b.passed (rank c) m (clause_verdict y n)) n e in
    let front = clauses-give x k.0 from h k.1 in
    let last = clause-gives y k.0 n front.1 (fine-turn b.passed (rank c) n m (clause_verdict y k.0) k.2) in (with-asked b.query c front.0 last.0, last.1)

-- WHAT A QUERY IS ABOUT

same_name : (a b : List ℕ) → Some a ≡ Some b → a ≡ b
same_name a b h = cc

collection-utf8 : (x : Placed) (n : List ℕ) (o : Option (List ℕ)) → ((m : List ℕ) → o ≡ Some m → IsUtf8 m) → option_and_then if_collection o ≡ Some n → IsUtf8 n
collection-utf8 x n None u e = absurd cc
collection-utf8 x n (Some m) u e = elim (is_collection m) as (λ b. cond b (Some m) None ≡ Some n → IsUtf8 n) [
  | true ↦ λ g. subst IsUtf8 (same_name m n g) (u m refl)
  | false ↦ λ g. absurd cc
] e

source-gives : {s r : Tokens} {o : Origin} → SpellsSource s o r → HaveUtf8 s → Gives IsOrigin o r
source-gives (index is also) h = (tt, h.1.1)
source-gives (documents {x = x} {n = n} is) h = (collection-utf8 x n (part x) (λ m e. part-utf8 x m h.0 e) is, h.1)

spelled-asked : (s : Tokens) (q : Query) (r : Tokens) (x : SpellsQuery s q r) (n : ℕ) → HaveUtf8 s → limit s q r x ≡ Fine n → IsAsked q
spelled-asked s q r (query is x clauses end) n h e = let from = source-gives x h.1 in (clauses-give clauses n from.0 from.1 e).0

text-asked : (long : Bool) (text : List ℕ) (q : Query) → IsUtf8 text → IsOfLength long text (Ok q) → IsAsked q
text-asked true text q u h = absurd cc
text-asked false text q u h = spelled-asked (tokens_of text) q h.rest h.spelling h.count (text-utf8 text u) h.within

pub query-asked : (text : List ℕ) (q : Query) → IsUtf8 text → SaysQuery text (Ok q) → IsAsked q
query-asked text q u h = text-asked (nat_lt most_bytes (length text)) text q u h
