-- Why the text of a query is refused.
use Rattle.std.specs.Prelude.{ℕ, List, codes}

pub data QueryKind : Type 0 where
  TooLarge ClauseOrder BadNumber Unexpected : QueryKind

-- the place of the first byte that is refused, counted from 0, and why
pub record QueryRefusal : Type 0 where
  pub at : ℕ
  pub kind : QueryKind

abbrev pub kind_name : QueryKind → List ℕ
kind_name TooLarge = codes "TooLarge"
kind_name ClauseOrder = codes "ClauseOrder"
kind_name BadNumber = codes "BadNumber"
kind_name Unexpected = codes "Unexpected"
