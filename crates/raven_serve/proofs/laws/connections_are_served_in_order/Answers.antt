use Rattle.raven_serve.specs.Fronts.{AnswersSeated, KeepsSeated}
use Rattle.raven_serve.proofs.Ordered.{in_order}
use Rattle.raven_serve.proofs.laws.connections_are_served_in_order.Goals as goal

pub returns : goal.returns
returns c = λ calls first last before after chain. in_order AnswersSeated KeepsSeated calls first before last after chain
