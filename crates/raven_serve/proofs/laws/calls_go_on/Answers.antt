use Rattle.raven_serve.proofs.Goings.{goes_later}
use Rattle.raven_serve.proofs.laws.calls_go_on.Goals as goal

pub returns : goal.returns
returns c = λ calls first last before after x chain seen. goes_later calls first before last after x chain seen
