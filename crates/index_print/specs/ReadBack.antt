-- What a printed map or reduce spells, and what its reading may give.
use Rattle.std.specs.Prelude.{◌≡◌, ℕ, List, [], map}
use Rattle.exact_parse.specs.Steps.{Unexpected, TooLarge, Outcome, Read, Refused}
use Rattle.index_tokens.specs.Reads.{Kind}
use Rattle.index_tokens.specs.Tokens.{tokens_of}
use Rattle.index_grammar.specs.Maps.{SpellsMap}
use Rattle.index_grammar.specs.View.{query_of}
use Rattle.index_grammar.specs.declared.spelled.SpelledMap.{SpelledMap}
use Rattle.index_tokens.specs.declared.token.Placed.{Placed}
use Rattle.index_tree.specs.declared.reduce_query.ReduceQuery.{ReduceQuery}
use Rattle.reduce_grammar.specs.Reduces.{SpellsReduce}
use Rattle.reduce_grammar.specs.declared.spelled.SpelledReduce.{SpelledReduce}
use Rattle.index_tree.specs.declared.map_query.MapQuery.{MapQuery}

-- all tokens of the text spell this map
abbrev pub IsTextOf : List ℕ → MapQuery → Type 0
IsTextOf text query = (spelled : SpelledMap) × SpellsMap (tokens_of text) spelled [] × (query_of spelled ≡ query)

-- this map, or that it is past a limit
abbrev pub ReadsBack : MapQuery → Outcome Placed Kind SpelledMap → Type 0
ReadsBack query (Read spelled count rest) = query_of spelled ≡ query
ReadsBack query (Refused (TooLarge kind) rest) = Unit {0}
ReadsBack query (Refused (Unexpected kind) rest) = ⊥

-- what a spelled reduce says, without the places of its parts
abbrev pub reduce_of : SpelledReduce → ReduceQuery
reduce_of spelled = record { var = spelled.var; group = spelled.group; key = spelled.key; members = map (λ placed. placed.member) spelled.members }

-- all tokens of the text spell this reduce
abbrev pub IsTextOfReduce : List ℕ → ReduceQuery → Type 0
IsTextOfReduce text query = (spelled : SpelledReduce) × SpellsReduce (tokens_of text) spelled [] × (reduce_of spelled ≡ query)

-- this reduce, or that it is past a limit
abbrev pub ReadsBackReduce : ReduceQuery → Outcome Placed Kind SpelledReduce → Type 0
ReadsBackReduce query (Read spelled count rest) = reduce_of spelled ≡ query
ReadsBackReduce query (Refused (TooLarge kind) rest) = Unit {0}
ReadsBackReduce query (Refused (Unexpected kind) rest) = ⊥
