use Rattle.raven_laws.proofs.Acts.{one-at-most}
use Rattle.spec_desk.proofs.laws.only_some_requests_make_several_changes.Goals as goal

pub returns : goal.returns
returns c = one-at-most
