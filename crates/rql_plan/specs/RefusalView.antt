-- What the refusals of the program say.
use Rattle.std.specs.Prelude.{◌≡◌, Option, Some}
use Rattle.spec_query.specs.Binding as is
use Rattle.rql_plan.specs.declared.refusal.PlanRefusal.{PlanRefusal}
use Rattle.rql_plan.specs.declared.refusal.PlanRefusal.TheVariants as r

-- a refusal is this one; memory alone may run out at any point
abbrev pub Refuses : PlanRefusal → Option is.PlanRefusal → Type 0
Refuses (r.NoParameter name) cause = cause ≡ Some (is.NoParameter name)
Refuses (r.NotGrouped name) cause = cause ≡ Some (is.NotGrouped name)
Refuses r.BadPage cause = cause ≡ Some is.BadPage
Refuses (r.NoField name) cause = cause ≡ Some (is.NoField name)
Refuses r.NoMemory cause = Unit {0}
