-- What a spelled map says, without the places of its members.
use Rattle.std.specs.Prelude.{map}
use Rattle.index_tree.specs.declared.map_query.MapQuery.{MapQuery}
use Rattle.index_grammar.specs.declared.spelled.SpelledMap.{SpelledMap}

abbrev pub query_of : SpelledMap → MapQuery
query_of spelled = record { var = spelled.var; collection = spelled.collection; clauses = spelled.clauses; members = map (λ placed. placed.member) spelled.members }
