-- What is answered to a query. It changes nothing, unless an automatic index is to be made for it.
use Rattle.std.specs.Prelude.{ℕ, List, ◌++◌, Bool, false, if◌then◌else◌, Option, Some, None, Result, Ok, Err, codes, map}
use Rattle.spec_data.specs.Data.{Data}
use Rattle.spec_data.specs.Rows.{Row}
use Rattle.spec_data.specs.Tables.{Table}
use Rattle.spec_store.specs.Store.{Store, last}
use Rattle.spec_store.specs.Stale.{stale}
use Rattle.index_tree.specs.Definitions.{Definition}
use Rattle.index_tree.specs.Mapper.{mapper_of}
use Rattle.index_tree.specs.Meaning.{Fields}
use Rattle.index_tree.specs.declared.reduce_query.ReduceQuery.{ReduceQuery}
use Rattle.spec_query.specs.Binding.{PlanRefusal, bind, check, plan_of}
use Rattle.spec_query.specs.Finding.{Found, found_in_collection, found_in_groups, found_in_index}
use Rattle.spec_query.specs.Offering.{offered_of}
use Rattle.spec_query.specs.Plan.{Plan}
use Rattle.spec_query.specs.Query.{Ask, OfIndex, OfCollection, is_whole}
use Rattle.spec_index.specs.Reduces.{reduce_of}
use Rattle.spec_index.specs.Rows.{reduced}
use Rattle.spec_index.specs.Mapping.{scratch}
use Rattle.spec_index.specs.Optimiser.{Choice, Use, Make, Shape, pick}
use Rattle.spec_index.specs.World.{Slot, World, reads, serving}
use Rattle.spec_server.specs.Replies.{Reply, Answer, BadPlan, NoIndex}
use Rattle.spec_server.specs.Shapes.{shape_asked}
use Rattle.spec_server.specs.Shown.{shown}

-- the rows of a reduce, which have no ids
abbrev pub without_ids : List Fields → List (Unit {0} × Fields)
without_ids rows = map (λ fields. (tt, fields)) rows

-- over the entries that the map gives for a table or, with a reduce, over the rows of their groups
abbrev pub found_by : Option ReduceQuery → (Row → Data → Data) → Plan → List (List ℕ × Fields) → Store → Found
found_by None show q entries S = found_in_index show q entries S
found_by (Some reduce) show q entries S = found_in_groups show q (without_ids (reduced reduce (map (λ e. e.1) entries))) S

-- what a plan finds over a table
abbrev pub found_over : Definition → Table → World → Plan → Found
found_over d T W q = found_by (reduce_of d) (shown W.setting.base) q (scratch (mapper_of d) T) W.store

abbrev pub answer_of : Found → ℕ → List ℕ → Bool → Reply
answer_of found etag name is_stale = Answer (record {
  includes = found.includes;
  index_etag = etag;
  index_name = name;
  is_stale = is_stale;
  results = found.results;
  total = found.total;
})

-- the answer of an index whose table is this one
abbrev pub answer_over : Table → World → Ask → Slot → Plan → Reply
answer_over T W ask s q = answer_of (found_over s.version.definition T W q) s.version.etag s.name (stale W.store (reads s.version) s.version.etag ask.cutoff)

abbrev pub answer_if_bound : Table → World → Ask → Slot → Result Plan PlanRefusal → Reply
answer_if_bound T W ask s (Ok q) = answer_over T W ask s q
answer_if_bound T W ask s (Err refusal) = BadPlan refusal

-- the query has to fit the index's definition
abbrev pub answer_by : Table → World → Ask → Slot → Reply
answer_by T W ask s = answer_if_bound T W ask s (bind ask (offered_of s.version.definition))

abbrev pub answer_from_index : World → Ask → List ℕ → Option Slot → Reply
answer_from_index W ask name None = NoIndex name
answer_from_index W ask name (Some s) = answer_by s.version.table W ask s

-- from the store itself, so it is never stale
abbrev pub answer_from_collection : World → Ask → List ℕ → Reply
answer_from_collection W ask collection =
    answer_of (found_in_collection (shown W.setting.base) (plan_of ask) collection W.store) (last W.store) (codes "collection/" ++ collection) false

-- what is answered without a change of the indexes, if the query is not refused before
pub data Answered : Type 0 where
  Ready : (reply : Reply) → Answered
  -- an automatic index of this shape is to be made first
  MustMake : (shape : Shape) → Answered

-- by the index that was picked
abbrev pub answer_picked : World → Ask → Choice → Answered
answer_picked W ask (Use s) = Ready (answer_by s.version.table W ask s)
answer_picked W ask (Make shape) = MustMake shape

-- by the index of a name, from a whole collection, or by an automatic index
abbrev pub answer_from : World → Ask → Answered
answer_from W ask = elim ask.query.origin [
  | OfIndex name ↦ Ready (answer_from_index W ask name (serving W.slots name))
  | OfCollection collection ↦
      if is_whole ask.query then Ready (answer_from_collection W ask collection) else answer_picked W ask (pick (shape_asked collection ask.query) W.store W.slots)
]

abbrev pub unless_refused : Answered → Option PlanRefusal → Answered
unless_refused answered None = answered
unless_refused answered (Some refusal) = Ready (BadPlan refusal)

-- first what needs no index may be refused
abbrev pub answer_ask : World → Ask → Answered
answer_ask W ask = unless_refused (answer_from W ask) (check ask)
