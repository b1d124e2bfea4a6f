use Rattle.index_definition.proofs.Sameness.{decided_alike}
use Rattle.index_definition.proofs.reading.same.Goals as goal

pub returns-clause-definition : goal.returns-clause-definition
returns-clause-definition c = decided_alike c.same_bodies.result c.args.a.now.body c.args.b.now.body c.same_bodies.ensures
