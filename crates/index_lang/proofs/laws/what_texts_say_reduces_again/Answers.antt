use Rattle.index_lang.proofs.Reducing.{said-reduces}
use Rattle.index_lang.proofs.laws.what_texts_say_reduces_again.Goals as goal

pub returns : goal.returns
returns c = said-reduces
