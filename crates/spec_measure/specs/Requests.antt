-- What is asked of the server.
use Rattle.std.specs.Prelude.{ℕ, zero, suc, ◌-◌, ◌%◌, ◌==◌, List, [], ◌∷◌, ◌++◌, if◌then◌else◌, Some, None, codes, Result, Ok, Err}
use Rattle.index_tree.specs.Definitions.{Definition, Texts}
use Rattle.index_tree.specs.Language.{LangRefusal}
use Rattle.spec_store.specs.Commit.{AnyVector}
use Rattle.spec_query.specs.Query.{Ask, OfIndex, Query}
use Rattle.spec_server.specs.Requests.{Request, Define, Delete, Pump, Put}
use Rattle.spec_server.specs.Texts.{plain_asking, whole_ask}
use Rattle.spec_measure.specs.Orders.{order_after, order_id}

-- how the orders are drawn: the seed, how many there are, and how many rows a batch takes
pub record Options : Type 0 where
  pub seed : ℕ
  pub docs : ℕ
  pub batch : ℕ

-- THE INDEX: what the orders of each company come to in each month

abbrev pub index_name : List ℕ
index_name = codes "Orders/ByCompanyMonth"

abbrev pub index_texts : Texts
index_texts = (
  codes "from o in docs.Orders select new { o.Company, o.OrderedAt.Year, o.OrderedAt.Month, Total = o.Cents, Count = 1 }",
  Some (codes "from r in results group r by new { r.Company, r.Year, r.Month } into g select new { g.Key.Company, g.Key.Year, g.Key.Month, Total = g.Sum(x => x.Total), Count = g.Sum(x => x.Count) }"),
)

-- it is defined, if the texts are a definition
abbrev pub definitions : Result Definition LangRefusal → List Request
definitions (Ok d) = Define index_name d ∷ []
definitions (Err refusal) = []

-- THE ORDERS

-- one batch of the index
abbrev pub pumping : Options → Request
pumping o = Pump o.batch (Some index_name)

-- behind each tenth order, the one that is five before it is deleted
abbrev pub deletions : ℕ → List Request
deletions n = if n % 10 == 0 then Delete (order_id (n - 5)) AnyVector ∷ [] else []

-- behind each hundredth order comes a batch
abbrev pub batches : Options → ℕ → List Request
batches o n = if n % 100 == 0 then pumping o ∷ [] else []

-- what is asked with the order that follows k others
abbrev pub requests_with : Options → ℕ → List Request
requests_with o k = Put (order_id (suc k)) AnyVector (order_after o.seed k) ∷ (deletions (suc k) ++ batches o (suc k))

-- and with the first so many
abbrev pub requests : Options → ℕ → List Request
requests o zero = []
requests o (suc k) = requests o k ++ requests_with o k

-- THE END

-- the query for all rows of the index
abbrev pub rows_query : Query
rows_query = record { origin = OfIndex index_name; groups = []; cond = None; sorts = []; columns = []; includes = [] }

abbrev pub rows_ask : Ask
rows_ask = whole_ask plain_asking rows_query
