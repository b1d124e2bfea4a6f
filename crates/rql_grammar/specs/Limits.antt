-- Where a spelling is past its limits.
use Rattle.std.specs.Prelude.{ℕ, List, [], ◌∷◌, Bool, not, ◌&&◌, ◌||◌, ◌==◌, if◌then◌else◌, nat_lt, length}
use Rattle.std.specs.List.{list_any}
use Rattle.exact_parse.specs.Limits.{Verdict, Fine, Over, and_fine, opens, counts}
use Rattle.spec_data.specs.Members.{Path}
use Rattle.spec_query.specs.Query.{Origin, Field, Cond, Sort, Column, Query}
use Rattle.rql_tokens.specs.declared.token.Token.{Token}
use Rattle.rql_tokens.specs.declared.token.Placed.{Placed}
use Rattle.rql_tokens.specs.Words.{Tokens}
use Rattle.rql_grammar.specs.Reads.{Kind, unexpected, large, late}
use Rattle.rql_grammar.specs.Fields.{SpellsList, one, more, SpellsPart, SpellsPath, SpellsField, at_path, count, sum}
use Rattle.rql_grammar.specs.Conditions.{SpellsTested, tested, Rule, Spells, conj, either, neg, both, denied, test, parens, exact, always, starts, exists, compare, between, among}
use Rattle.rql_grammar.specs.Queries.{SpellsSort, sort, SpellsColumn, column, Clause, rank, SpellsClause, grouping, filter, ordering, selecting, including, Begun, SpellsClauses, no_clause, next_clause, SpellsQuery, query}

-- parentheses, `exact` and `not` within one another
abbrev pub most_open : ℕ
most_open = 64

-- fields of a query, with the paths of `group` and `include`, and without those inside `sum`
abbrev pub most_fields : ℕ
most_fields = 64

abbrev pub Judged : Type 0
Judged = Verdict Placed Kind

-- of a list, one after the other
abbrev pub list_verdict : {A : Type 0} {u : Token} {X : Tokens → A → Tokens → Type 0} → ((s : Tokens) (a : A) (r : Tokens) → X s a r → ℕ → Judged) →
    {s r : Tokens} {found : List A} → SpellsList u X s found r → ℕ → Judged
list_verdict v (one {s = s} {r = r} {a = a} x) c = v s a r x c
list_verdict v (more {m = m} {r = r} {a = a} x is y) c = and_fine (list_verdict v x c) (λ c. v m a r y c)

-- ---- paths and fields

-- what a part of a path may be: not empty, and without `.`, `(` and `)`
abbrev pub is_part : List ℕ → Bool
is_part n = nat_lt 0 (length n) && not (list_any (λ b. (b == 46) || (b == 40) || (b == 41)) n)

abbrev pub part_verdict : (s : Tokens) (n : List ℕ) (r : Tokens) → SpellsPart s n r → ℕ → Judged
part_verdict s n r x c = if is_part n then Fine c else Over unexpected s

abbrev pub path_verdict : (s : Tokens) (path : Path) (r : Tokens) → SpellsPath s path r → ℕ → Judged
path_verdict s path r x c = list_verdict part_verdict x c

-- a field counts at its first token
abbrev pub counted_path_verdict : (s : Tokens) (path : Path) (r : Tokens) → SpellsPath s path r → ℕ → Judged
counted_path_verdict s path r x c = counts large most_fields c s (path_verdict s path r x)

-- behind that
abbrev pub inside_verdict : (s : Tokens) (a : Field) (r : Tokens) → SpellsField s a r → ℕ → Judged
inside_verdict s a r (at_path {s = m} {x = y} {path = path} free x) c = path_verdict (y ∷ m) path r x c
inside_verdict s a r (count call is also) c = Fine c
inside_verdict s a r (sum {s = m} {q = q} {path = path} call is x also) c = path_verdict m path (q ∷ r) x c

abbrev pub field_verdict : (s : Tokens) (a : Field) (r : Tokens) → SpellsField s a r → ℕ → Judged
field_verdict s a r x c = counts large most_fields c s (inside_verdict s a r x)

abbrev pub tested_verdict : {s r : Tokens} {a : Field} → SpellsTested s a r → ℕ → Judged
tested_verdict (tested {s = s} {r = r} {x = x} {a = a} free y) c = field_verdict (x ∷ s) a r y c

-- ---- conditions

-- Parts open at a `(` that stands round a condition, at an `exact`, with its `(`, and at a `not`, to the end of its test. Those within one another are
-- no more than the room. Fields are counted, from a count on.
abbrev pub verdict : {rule : Rule} {s r : Tokens} {a : Cond} → Spells rule s a r → (room c : ℕ) → Judged
verdict (conj x) room c = verdict x room c
verdict (either x is y) room c = and_fine (verdict x room c) (λ c. verdict y room c)
verdict (neg x) room c = verdict x room c
verdict (both x is y) room c = and_fine (verdict x room c) (λ c. verdict y room c)
verdict (denied {s = s} {o = o} is x) room c = opens large room (o ∷ s) (λ room. verdict x room c)
verdict (test x) room c = verdict x room c
verdict (parens {s = s} {p = p} is x also) room c = opens large room (p ∷ s) (λ room. verdict x room c)
verdict (exact {s = s} {x = x} {p = p} word is y also) room c = opens large room (x ∷ p ∷ s) (λ room. verdict y room c)
verdict (always is) room c = Fine c
verdict (starts {s = s} {m = m} {c = k} {a = a} word is x comma v also) room c = field_verdict s a (k ∷ m) x c
verdict (exists {s = s} {r = r} {q = q} {a = a} word is x also) room c = field_verdict s a (q ∷ r) x c
verdict (compare x is v) room c = tested_verdict x c
verdict (between x is v word w) room c = tested_verdict x c
verdict (among x is opening vs also) room c = tested_verdict x c

-- ---- clauses

abbrev pub sort_verdict : (s : Tokens) (a : Sort) (r : Tokens) → SpellsSort s a r → ℕ → Judged
sort_verdict s b r (sort {m = m} {a = a} x l d) c = field_verdict s a m x c

abbrev pub column_verdict : (s : Tokens) (a : Column) (r : Tokens) → SpellsColumn s a r → ℕ → Judged
column_verdict s b r (column {m = m} {a = a} x n) c = field_verdict s a m x c

abbrev pub clause_verdict : {s r : Tokens} {a : Clause} → SpellsClause s a r → ℕ → Judged
clause_verdict (grouping is also x) c = list_verdict counted_path_verdict x c
clause_verdict (filter is x) c = verdict x most_open c
clause_verdict (ordering is also x) c = list_verdict sort_verdict x c
clause_verdict (selecting is x) c = list_verdict column_verdict x c
clause_verdict (including is x) c = list_verdict counted_path_verdict x c

-- a clause that is not of a higher rank than the one before it comes too late
abbrev pub in_turn : (passed n : ℕ) → Tokens → Judged → Judged
in_turn passed n s v = if nat_lt passed n then v else Over late s

abbrev pub clauses_verdict : {o : Origin} {s r : Tokens} {b : Begun} → SpellsClauses o s b r → Judged
clauses_verdict no_clause = Fine 0
clauses_verdict (next_clause {m = m} {b = b} {c = c} x y may) = and_fine (clauses_verdict x) (λ n. in_turn b.passed (rank c) m (clause_verdict y n))

abbrev pub limit : (s : Tokens) (a : Query) (r : Tokens) → SpellsQuery s a r → Judged
limit s a r (query is x clauses end) = clauses_verdict clauses
