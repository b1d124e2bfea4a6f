use Rattle.http_read.proofs.HeadLemmas.{token_method, visible_path, head_refused}
use Rattle.http_read.proofs.head.read_head.Goals as goal

pub head_of-requires-clause-visible : goal.head_of-requires-clause-visible
head_of-requires-clause-visible c = visible_path _ _ _ c.in-Whole.ensures.1 c.in-Whole.ensures.2

pub head_of-requires-clause-token : goal.head_of-requires-clause-token
head_of-requires-clause-token c = token_method _ _ _ c.in-Whole.ensures.1

pub returns-in-Err : goal.returns-in-Err
returns-in-Err c = head_refused _ _ _ c.in-Err.end c.in-Whole.ensures.1 c.in-Whole.ensures.2 c.in-Err.ensures
