-- What a desk gives for a request.
use Rattle.spec_server.specs.Requests.{Request}
use Rattle.spec_desk.specs.Lived.{Lived}
use Rattle.spec_desk.specs.Receipts.{GoesOn, IsAsked, Receipt, Standing}

-- a desk that stood so was asked this request, gave this receipt, and then stands so
pub record GivesReceipt (Link : Lived → Lived → Type 0) (x : Standing) (q : Request) (r : Receipt) (y : Standing) : Type 0 where
  pub asked : IsAsked Link x q r y
  pub goes_on : GoesOn x y
