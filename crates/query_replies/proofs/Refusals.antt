-- A query that is refused is answered by its refusal alone.
use Rattle.std.proofs.Common.{◌≡◌, Option, Some, sym, ap}
use Rattle.spec_query.specs.Binding.{PlanRefusal}
use Rattle.spec_server.specs.Asking.{Answered, Ready, unless_refused}
use Rattle.spec_server.specs.Replies.{BadPlan}

pub by_cause : (other : Answered) (cause : Option PlanRefusal) (refusal : PlanRefusal) → cause ≡ Some refusal → Ready (BadPlan refusal) ≡ unless_refused other cause
by_cause other cause refusal h = ap (unless_refused other) (sym h)

pub ruleset refusals = (by_cause)
