-- What is to be found: a query with values in place of its parameters, and the rows of its page.
use Rattle.std.specs.Prelude.{ℕ, List, false, Option, Some, None, filter, take, drop}
use Rattle.spec_data.specs.Members.{Path}
use Rattle.index_tree.specs.Meaning.{Fields}
use Rattle.spec_query.specs.Condition.{Condition, meets}
use Rattle.spec_query.specs.Query.{Field}
use Rattle.spec_query.specs.Sorting.{SortKey, keys_order, sorted}

-- a field of the results under its name there
pub record Selected : Type 0 where
  pub name : List ℕ
  pub field : Field

-- without columns a result is the whole document or row, and without a size the page goes to the end
pub record Plan : Type 0 where
  pub condition : Condition
  pub order : List SortKey
  pub columns : List Selected
  pub includes : List Path
  pub start : ℕ
  pub size : Option ℕ

-- ROWS: the entries of an index under their ids, or the rows of a reduce

abbrev pub meeting : {K : Type 0} → Plan → List (K × Fields) → List (K × Fields)
meeting q rows = filter (λ r. meets q.condition false r.1) rows

abbrev pub up_to : {X : Type 0} → Option ℕ → List X → List X
up_to None xs = xs
up_to (Some size) xs = take size xs

-- of the rows that meet the condition, in order, the first `start` are left out, and at most `size` are taken
abbrev pub page : {K : Type 0} → Plan → List (K × Fields) → List (K × Fields)
page q rows = up_to q.size (drop q.start (sorted (λ a b. keys_order q.order a.1 b.1) (meeting q rows)))
