-- Readings of parts of rules, for functions that read just these.
use Rattle.std.specs.Prelude.{ℕ, List, Bool, not, ◌&&◌, ◌==◌, if◌then◌else◌, Option, Some, None}
use Rattle.exact_parse.specs.Steps.{◌>>=◌, ◌>>◌, skip, pure, take}
use Rattle.spec_data.specs.Members.{Path}
use Rattle.spec_query.specs.Query.{Origin, Field, Cond, Sort, Query}
use Rattle.rql_tokens.specs.declared.key_words.KeyWord.TheVariants as k
use Rattle.rql_tokens.specs.declared.token.Token.{Token}
use Rattle.rql_tokens.specs.declared.token.Token.TheVariants as t
use Rattle.rql_tokens.specs.declared.token.Placed.{Placed}
use Rattle.rql_tokens.specs.Words.{the}
use Rattle.rql_grammar.specs.Reads.{Reads, unexpected}
use Rattle.rql_grammar.specs.Queries.{Clause, Begun, begun, with_clause}
use Rattle.rql_grammar.specs.FieldReading.{counting, count_call, sum_call, list, counted_path}
use Rattle.rql_grammar.specs.ConditionReading.{starting, existing}
use Rattle.rql_grammar.specs.QueryReading.{grouping, filter, ordering, selecting, including, one_sort, clauses}
use Rattle.rql_parser.specs.declared.section.Section.{Section}
use Rattle.rql_parser.specs.declared.section.Section.TheVariants as s

-- counts what begins at the next token, and reads nothing
abbrev pub counts_one : Reads (Unit {0})
counts_one = counting (pure tt)

-- ---- calls, with their words

abbrev pub counted_call : Reads Field
counted_call = skip >> count_call

abbrev pub summed_call : Reads Field
summed_call = skip >> sum_call

abbrev pub starts_call : Reads Cond
starts_call = skip >> starting

abbrev pub exists_call : Reads Cond
exists_call = skip >> existing

-- ---- clauses

abbrev pub rank_of : Section → ℕ
rank_of s.Group = 1
rank_of s.Where = 2
rank_of s.Order = 3
rank_of s.Select = 4
rank_of s.Include = 5

-- what is read behind the word of a clause
abbrev pub clause_reading : Section → Reads Clause
clause_reading s.Group = grouping
clause_reading s.Where = filter
clause_reading s.Order = ordering
clause_reading s.Select = selecting
clause_reading s.Include = including

-- and added to a query
abbrev pub into_query : Query → Section → Reads Query
into_query q section = clause_reading section >>= λ a. pure (with_clause q a)

abbrev pub grouped : Reads (List Path)
grouped = take unexpected (the (t.Key k.By)) >>= λ _. list t.Comma counted_path

abbrev pub ordered : Reads (List Sort)
ordered = take unexpected (the (t.Key k.By)) >>= λ _. list t.Comma one_sort

-- the clause whose word a token is
abbrev pub section_as : Token → Option Section
section_as (t.Key k.Group) = Some s.Group
section_as (t.Key k.Where) = Some s.Where
section_as (t.Key k.Order) = Some s.Order
section_as (t.Key k.Select) = Some s.Select
section_as (t.Key k.Include) = Some s.Include
section_as _ = None

abbrev pub section_at : Option Placed → Option Section
section_at (Some x) = section_as x.token
section_at None = None

-- if it may follow: nothing of the first rank follows the name of an index
abbrev pub following : Bool → ℕ → Option Section → Option Section
following of_index passed (Some section) = if not (of_index && ((passed == 0) && (rank_of section == 1))) then Some section else None
following of_index passed None = None

-- the query with the clauses that follow
abbrev pub rest_of : Begun → Reads Query
rest_of b = clauses b >>= λ b. pure b.query

abbrev pub all_clauses : Origin → Reads Query
all_clauses o = rest_of (begun o)
