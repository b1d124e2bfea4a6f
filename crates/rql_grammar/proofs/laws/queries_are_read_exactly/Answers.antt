use Rattle.exact_parse.proofs.Exact.{said, one_answer}
use Rattle.rql_grammar.specs.Limits.{limit}
use Rattle.rql_grammar.specs.Queries.{SpellsQuery}
use Rattle.rql_grammar.specs.QueryReading.{query_text}
use Rattle.rql_grammar.proofs.QueryKeeps.{query_text_keeps}
use Rattle.rql_grammar.proofs.QueryMeets.{query_text_meets}
use Rattle.rql_grammar.proofs.laws.queries_are_read_exactly.Goals as goal

pub returns-clause-read : goal.returns-clause-read
returns-clause-read c = said SpellsQuery limit query_text query_text_keeps query_text_meets

pub returns-clause-one : goal.returns-clause-one
returns-clause-one c = one_answer SpellsQuery limit query_text query_text_keeps query_text_meets
