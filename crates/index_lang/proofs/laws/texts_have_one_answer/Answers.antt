use Rattle.index_lang.proofs.Once.{parsed_once}
use Rattle.index_lang.proofs.laws.texts_have_one_answer.Goals as goal

pub returns : goal.returns
returns c = parsed_once
