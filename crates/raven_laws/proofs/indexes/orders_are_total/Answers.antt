use Rattle.spec_data.specs.Orders.{order-total}
use Rattle.raven_laws.proofs.indexes.orders_are_total.Goals as goal

pub returns : goal.returns
returns c = order-total
