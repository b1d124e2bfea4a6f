use Rattle.index_lang.proofs.Alike.{told-alike}
use Rattle.index_lang.proofs.reduces.same_reduce.Goals as goal

pub returns : goal.returns
returns c = told-alike c.reduce_alike.result c.args.a.now.body c.args.b.now.body c.reduce_alike.ensures
