-- The reading of queries.
use Rattle.std.specs.Prelude.{ℕ, List, ◌∷◌, Bool, true, false, if◌then◌else◌, nat_lt, Option, Some, None}
use Rattle.exact_parse.specs.Steps.{◌>>=◌, ◌>>◌, pure, refuse, too_large, choose, skip, take, Next, Ends, More, loop}
use Rattle.spec_query.specs.Query.{Origin, OfIndex, OfCollection, Sort, Column, Query}
use Rattle.rql_tokens.specs.declared.key_words.KeyWord.TheVariants as k
use Rattle.rql_tokens.specs.declared.token.Token.{Token}
use Rattle.rql_tokens.specs.declared.token.Token.TheVariants as t
use Rattle.rql_tokens.specs.declared.token.Placed.{Placed}
use Rattle.rql_tokens.specs.Words.{next_is, the, name, quoted}
use Rattle.rql_grammar.specs.Reads.{Kind, Reads, unexpected, late}
use Rattle.rql_grammar.specs.Queries.{collection, long, desc, sort_of, column_of, Clause, Groups, Where, Orders, Columns, Includes, Begun, begun, stepped, may_follow}
use Rattle.rql_grammar.specs.FieldReading.{list, counted_path, field}
use Rattle.rql_grammar.specs.ConditionReading.{condition}

-- ---- what a query is about

abbrev pub collection_at : Option Placed → Option (List ℕ)
collection_at (Some x) = collection x
collection_at None = None

abbrev pub one_index : Reads Origin
one_index = take unexpected (the (t.Key k.Index)) >>= λ _. take unexpected quoted >>= λ n. pure (OfIndex n)

abbrev pub source_by : Option (List ℕ) → Reads Origin
source_by (Some n) = skip >> pure (OfCollection n)
source_by None = one_index

unfoldable pub one_source : Reads Origin
one_source = choose (λ h. source_by (collection_at h))

-- ---- keys of an order, and columns

-- what follows a field, if it is told
unfoldable pub long_if_any : Reads Bool
long_if_any = choose (λ h. if next_is (t.Key k.As) h then (skip >> take unexpected long) else pure false)

abbrev pub desc_at : Option Placed → Option Bool
desc_at (Some x) = desc x
desc_at None = None

abbrev pub desc_by : Option Bool → Reads Bool
desc_by (Some d) = skip >> pure d
desc_by None = pure false

unfoldable pub desc_if_any : Reads Bool
desc_if_any = choose (λ h. desc_by (desc_at h))

unfoldable pub one_sort : Reads Sort
one_sort = field >>= λ a. long_if_any >>= λ l. desc_if_any >>= λ d. pure (sort_of a l d)

unfoldable pub name_if_any : Reads (Option (List ℕ))
name_if_any = choose (λ h. if next_is (t.Key k.As) h then (skip >> (take unexpected name >>= λ n. pure (Some n))) else pure None)

unfoldable pub one_column : Reads Column
one_column = field >>= λ a. name_if_any >>= λ n. pure (column_of a n)

-- ---- clauses, behind their first words

unfoldable pub grouping : Reads Clause
grouping = take unexpected (the (t.Key k.By)) >>= λ _. list t.Comma counted_path >>= λ paths. pure (Groups paths)

unfoldable pub filter : Reads Clause
filter = condition >>= λ a. pure (Where a)

unfoldable pub ordering : Reads Clause
ordering = take unexpected (the (t.Key k.By)) >>= λ _. list t.Comma one_sort >>= λ sorts. pure (Orders sorts)

unfoldable pub selecting : Reads Clause
selecting = list t.Comma one_column >>= λ columns. pure (Columns columns)

unfoldable pub including : Reads Clause
including = list t.Comma counted_path >>= λ paths. pure (Includes paths)

-- what is done at the word of a clause of this rank
abbrev pub clause_of : Begun → ℕ → Reads Clause → Next Placed Kind Begun Begun
clause_of b n p =
    if may_follow b n then (if nat_lt b.passed n then More (p >>= λ a. pure (stepped b n a)) else Ends (too_large late))
    else Ends (pure b)

abbrev pub clause_as : Begun → Token → Next Placed Kind Begun Begun
clause_as b (t.Key k.Group) = clause_of b 1 grouping
clause_as b (t.Key k.Where) = clause_of b 2 filter
clause_as b (t.Key k.Order) = clause_of b 3 ordering
clause_as b (t.Key k.Select) = clause_of b 4 selecting
clause_as b (t.Key k.Include) = clause_of b 5 including
clause_as b _ = Ends (pure b)

abbrev pub clause_next : Begun → Option Placed → Next Placed Kind Begun Begun
clause_next b (Some x) = clause_as b x.token
clause_next b None = Ends (pure b)

-- goes on behind what is there of a query
unfoldable pub clauses : Begun → Reads Begun
clauses = loop unexpected clause_next

-- ---- the whole text

unfoldable pub query_text : Reads Query
query_text = take unexpected (the (t.Key k.From)) >>= λ _. one_source >>= λ o. clauses (begun o) >>= λ b. take unexpected (the t.End) >>= λ _. pure b.query
