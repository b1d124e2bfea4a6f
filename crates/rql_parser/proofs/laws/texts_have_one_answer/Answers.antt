use Rattle.rql_parser.proofs.Answering.{one_of}
use Rattle.rql_parser.proofs.laws.texts_have_one_answer.Goals as goal

pub returns : goal.returns
returns c = one_of
