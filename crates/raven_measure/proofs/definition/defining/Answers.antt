use Rattle.std.proofs.Common.{refl}
use Rattle.raven_measure.proofs.Definings.{asks-definition, asks-nothing}
use Rattle.raven_measure.proofs.definition.defining.Goals as goal

pub returns-in-Ok : goal.returns-in-Ok
returns-in-Ok c = asks-definition _ c.in-Ok.definition _ c.in_ok-index_name.ensures c.in-Ok.ensures refl

pub returns-in-Err-At : goal.returns-in-Err-At
returns-in-Err-At c = asks-nothing c.in_ok-index_name.field-0 _ _ _ _ c.in-Err-At.field-0-is c.in-Err-At.ensures
