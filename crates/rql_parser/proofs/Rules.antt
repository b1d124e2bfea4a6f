-- What the rules of fields, values and sources read, by the next token.
use Rattle.std.proofs.Common.{◌≡◌, ℕ, ◌+◌, ◌<◌, ◌≤◌, Bool, true, false, cond, nat_lt, List, [], ◌∷◌, length, Option, Some, None, refl, ◌∙◌, ap, arith, map}
use Rattle.exact_parse.specs.Steps.{head, tail, Outcome, Read, and_then, ◌>>=◌, pure, within}
use Rattle.exact_parse.proofs.Keeping.{read_shorter}
use Rattle.spec_data.specs.Members.{Path}
use Rattle.spec_data.specs.Scalars.{Scalar}
use Rattle.spec_query.specs.Query.{Field, Operand, Const, Origin, OfCollection, Sort, Column}
use Rattle.rql_tokens.specs.declared.token.Token.{Token}
use Rattle.rql_tokens.specs.declared.token.Token.TheVariants as t
use Rattle.rql_tokens.specs.declared.token.Placed.{Placed}
use Rattle.rql_tokens.specs.Words.{Tokens, next_is}
use Rattle.rql_grammar.specs.Reads.{Kind, Reads, large}
use Rattle.rql_grammar.specs.Fields.{SpellsPart, SpellsPath, SpellsValue}
use Rattle.rql_grammar.specs.Queries.{SpellsSort, SpellsColumn}
use Rattle.rql_grammar.specs.Limits.{most_fields}
use Rattle.rql_grammar.specs.FieldReading as read
use Rattle.rql_grammar.specs.FieldReading.{chain, added, list}
use Rattle.rql_grammar.specs.QueryReading as query
use Rattle.rql_grammar.proofs.Chains.{list_end, list_on}
use Rattle.rql_grammar.proofs.FieldKeeps.{part_keeps, counted_path_keeps, value_keeps}
use Rattle.rql_grammar.proofs.QueryKeeps.{sort_keeps, column_keeps}
use Rattle.rql_parser.specs.Parts.{counts_one}

-- ---- what counts

counting_is : {A : Type 0} (p : Reads A) (c : ℕ) (s : Tokens) → read.counting p c s ≡ and_then (counts_one c s) (λ _. p)
unfolding read.counting
counting_is p c s = by (read.part_at (head s))
  where
    at : (d : Bool) → within large d p (c + 1) s ≡ and_then (within large d (pure (tt {0})) (c + 1) s) (λ _. p)
    at true = refl
    at false = refl

    by : (o : Option (List ℕ)) → read.counted_by p o c s ≡ and_then (read.counted_by (pure (tt {0})) o c s) (λ _. p)
    by (Some n) = at (nat_lt c most_fields)
    by None = refl

pub counted_path_is : (c : ℕ) (s : Tokens) → read.counted_path c s ≡ and_then (counts_one c s) (λ _. read.path)
unfolding read.counted_path
counted_path_is c s = counting_is read.path c s

pub field_is : (c : ℕ) (s : Tokens) → read.field c s ≡ and_then (counts_one c s) (λ _. read.inside)
unfolding read.field
field_is c s = counting_is read.inside c s

pub ruleset counted = (counted_path_is, field_is)

pub inside_is : (c : ℕ) (s : Tokens) → read.inside c s ≡ read.field_by (read.function_at (head s)) c s
unfolding read.inside read.path list read.one_part
inside_is c [] = refl
inside_is c (x ∷ s) = refl

pub ruleset inside = (inside_is)

-- ---- values

pub value_some : (c : ℕ) (s : Tokens) (v : Scalar) → read.constant_at (head s) ≡ Some v → read.value c s ≡ Read (Const v) c (tail s)
unfolding read.value
value_some c s v e = ap (λ o. read.value_by o c s) e

pub value_none : (c : ℕ) (s : Tokens) → read.constant_at (head s) ≡ None → read.value c s ≡ read.one_parameter c s
unfolding read.value
value_none c s e = ap (λ o. read.value_by o c s) e

pub ruleset values = (value_some, value_none)

-- ---- sources

pub source_some : (c : ℕ) (s : Tokens) (n : List ℕ) → query.collection_at (head s) ≡ Some n → query.one_source c s ≡ Read (OfCollection n) c (tail s)
unfolding query.one_source
source_some c s n e = ap (λ o. query.source_by o c s) e

pub source_none : (c : ℕ) (s : Tokens) → query.collection_at (head s) ≡ None → query.one_source c s ≡ query.one_index c s
unfolding query.one_source
source_none c s e = ap (λ o. query.source_by o c s) e

pub ruleset sources = (source_some, source_none)

-- ---- directions

pub desc_some : (c : ℕ) (s : Tokens) (d : Bool) → query.desc_at (head s) ≡ Some d → query.desc_if_any c s ≡ Read d c (tail s)
unfolding query.desc_if_any
desc_some c s d e = ap (λ o. query.desc_by o c s) e

pub desc_none : (c : ℕ) (s : Tokens) → query.desc_at (head s) ≡ None → query.desc_if_any c s ≡ Read false c s
unfolding query.desc_if_any
desc_none c s e = ap (λ o. query.desc_by o c s) e

pub ruleset directions = (desc_some, desc_none)

-- ---- lists

pub map_added : {A B : Type 0} (f : A → B) (found : List A) (a : A) → map f (added found a) ≡ added (map f found) (f a)
map_added f [] a = refl
map_added f (b ∷ found) a = ap (λ z. f b ∷ z) (map_added f found a)

pub list_begins : {A : Type 0} (u : Token) (item : Reads A) (c : ℕ) (s : Tokens) (a : A) (n : ℕ) (m : Tokens) → item c s ≡ Read a n m → list u item c s ≡ chain u item added (a ∷ []) n m
unfolding list
list_begins u item c s a n m e = ap (λ o. and_then o (λ a. chain u item added (a ∷ []))) e

pub list_is : {A : Type 0} (u : Token) (item : Reads A) (c : ℕ) (s : Tokens) → list u item c s ≡ and_then (item c s) (λ a. chain u item added (a ∷ []))
unfolding list
list_is u item c s = refl

pub path_is : (c : ℕ) (s : Tokens) → read.path c s ≡ and_then (read.one_part c s) (λ a. chain t.Point read.one_part added (a ∷ []))
unfolding read.path
path_is c s = list_is t.Point read.one_part c s

pub parts_end : (found : Path) (c : ℕ) (s : Tokens) → next_is t.Point (head s) ≡ false → chain t.Point read.one_part added found c s ≡ Read found c s
parts_end = list_end SpellsPart t.Point read.one_part part_keeps

pub parts_on : (found : Path) (c : ℕ) (s : Tokens) → next_is t.Point (head s) ≡ true → chain t.Point read.one_part added found c s ≡ and_then (read.one_part c (tail s)) (λ n. chain t.Point read.one_part added (added found n))
parts_on = list_on SpellsPart t.Point read.one_part part_keeps

pub paths_end : (found : List Path) (c : ℕ) (s : Tokens) → next_is t.Comma (head s) ≡ false → chain t.Comma read.counted_path added found c s ≡ Read found c s
paths_end = list_end SpellsPath t.Comma read.counted_path counted_path_keeps

pub paths_on : (found : List Path) (c : ℕ) (s : Tokens) → next_is t.Comma (head s) ≡ true →
    chain t.Comma read.counted_path added found c s ≡ and_then (read.counted_path c (tail s)) (λ a. chain t.Comma read.counted_path added (added found a))
paths_on = list_on SpellsPath t.Comma read.counted_path counted_path_keeps

pub values_end : (found : List Operand) (c : ℕ) (s : Tokens) → next_is t.Comma (head s) ≡ false → chain t.Comma read.value added found c s ≡ Read found c s
values_end = list_end SpellsValue t.Comma read.value value_keeps

pub values_on : (found : List Operand) (c : ℕ) (s : Tokens) → next_is t.Comma (head s) ≡ true → chain t.Comma read.value added found c s ≡ and_then (read.value c (tail s)) (λ a. chain t.Comma read.value added (added found a))
values_on = list_on SpellsValue t.Comma read.value value_keeps

pub sorts_end : (found : List Sort) (c : ℕ) (s : Tokens) → next_is t.Comma (head s) ≡ false → chain t.Comma query.one_sort added found c s ≡ Read found c s
sorts_end = list_end SpellsSort t.Comma query.one_sort sort_keeps

pub sorts_on : (found : List Sort) (c : ℕ) (s : Tokens) → next_is t.Comma (head s) ≡ true → chain t.Comma query.one_sort added found c s ≡ and_then (query.one_sort c (tail s)) (λ a. chain t.Comma query.one_sort added (added found a))
sorts_on = list_on SpellsSort t.Comma query.one_sort sort_keeps

pub columns_end : (found : List Column) (c : ℕ) (s : Tokens) → next_is t.Comma (head s) ≡ false → chain t.Comma query.one_column added found c s ≡ Read found c s
columns_end = list_end SpellsColumn t.Comma query.one_column column_keeps

pub columns_on : (found : List Column) (c : ℕ) (s : Tokens) → next_is t.Comma (head s) ≡ true →
    chain t.Comma query.one_column added found c s ≡ and_then (query.one_column c (tail s)) (λ a. chain t.Comma query.one_column added (added found a))
columns_on = list_on SpellsColumn t.Comma query.one_column column_keeps

-- ---- what is left gets shorter

pub turn_shorter : (u : Token) (s m : Tokens) → next_is u (head s) ≡ true → length m ≤ length (tail s) → length m < length s
turn_shorter u [] m e h = cc
turn_shorter u (x ∷ s) m e h = omega (arith, h)

pub part_shorter : (c : ℕ) (s : Tokens) (a : List ℕ) (n : ℕ) (m : Tokens) → read.one_part c s ≡ Read a n m → length m ≤ length s
part_shorter = read_shorter SpellsPart read.one_part part_keeps

pub path_shorter : (c : ℕ) (s : Tokens) (a : Path) (n : ℕ) (m : Tokens) → read.counted_path c s ≡ Read a n m → length m ≤ length s
path_shorter = read_shorter SpellsPath read.counted_path counted_path_keeps

pub value_shorter : (c : ℕ) (s : Tokens) (a : Operand) (n : ℕ) (m : Tokens) → read.value c s ≡ Read a n m → length m ≤ length s
value_shorter = read_shorter SpellsValue read.value value_keeps

pub sort_shorter : (c : ℕ) (s : Tokens) (a : Sort) (n : ℕ) (m : Tokens) → query.one_sort c s ≡ Read a n m → length m ≤ length s
sort_shorter = read_shorter SpellsSort query.one_sort sort_keeps

pub column_shorter : (c : ℕ) (s : Tokens) (a : Column) (n : ℕ) (m : Tokens) → query.one_column c s ≡ Read a n m → length m ≤ length s
column_shorter = read_shorter SpellsColumn query.one_column column_keeps
