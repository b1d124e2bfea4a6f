-- What the laws claim of the answer to a query, and of the index that it makes.
use Rattle.std.specs.Prelude.{◌≡◌, ℕ, List, [], ◌∷◌, ◌++◌, true, false, Some, None, ◌⊎◌, ◌↔◌}
use Rattle.std.specs.FinMap.{empty}
use Rattle.spec_data.specs.Members.{Path}
use Rattle.index_tree.specs.Definitions.{Auto, AutoReduce}
use Rattle.index_tree.specs.Mapper.{count_name, joined, sum_name}
use Rattle.spec_query.specs.Binding.{PlanRefusal, check}
use Rattle.spec_query.specs.Fields.{asked_fields, selected_fields}
use Rattle.spec_query.specs.Query as query
use Rattle.spec_query.specs.Query.{At, Field, OfCollection, OfIndex, Query, Sum, is_whole}
use Rattle.spec_index.specs.Optimiser.{Make, Shape, covers, definition_of, shape_of}
use Rattle.spec_index.specs.World.{Slot}
use Rattle.spec_server.specs.Asking.{answer_by, answer_from_collection}
use Rattle.spec_server.specs.Requests.{Ask, Do, Keeping}
use Rattle.spec_server.specs.Courses.{Machine, Replied, same_machine}
use Rattle.spec_server.specs.Indexing.{made_name}
use Rattle.spec_server.specs.Machine.{step}
use Rattle.spec_server.specs.Replies.{Reply}
use Rattle.spec_server.specs.Shapes.{shape_asked}
use Rattle.spec_server.specs.Sound.{Has}
use Rattle.spec_store.specs.Commit.{AnyVector, Put}
use Rattle.spec_index.specs.World.{index_id, row_body}
use Rattle.raven_laws.specs.Choices.{AreInOrder, IsChosen, IsFull}
use Rattle.raven_laws.specs.Definitions.{IsNewIndex, IsNoIndex, IsRowRefused, new_slot}
use Rattle.raven_laws.specs.Queries.{AsksIndex}
use Rattle.raven_laws.specs.Writes.{IsKeeperFault}

-- WHAT A QUERY ON A COLLECTION ASKS OF AN INDEX

-- without groups: the paths of its condition and of its order
pub record AsksPlain (collection : List ℕ) (q : Query) (shape : Shape) : Type 0 where
  pub collection_is : shape.collection ≡ collection
  pub plain : shape.grouped ≡ false
  pub groups : shape.groups ≡ []
  pub ordered : AreInOrder shape.fields
  pub fields : (p : Path) → Has shape.fields p ↔ Has (asked_fields q) (At p)

-- with groups: these, and all paths that are summed
pub record AsksGroups (collection : List ℕ) (q : Query) (shape : Shape) : Type 0 where
  pub collection_is : shape.collection ≡ collection
  pub grouped : shape.grouped ≡ true
  pub groups_ordered : AreInOrder shape.groups
  pub groups : (p : Path) → Has shape.groups p ↔ Has q.groups p
  pub ordered : AreInOrder shape.fields
  pub sums : (p : Path) → Has shape.fields p ↔ Has (asked_fields q ++ selected_fields q) (Sum p)

abbrev pub AsksShape : List ℕ → Query → Shape → Type 0
AsksShape collection q shape = ((q.groups ≡ []) × AsksPlain collection q shape) ⊎ ((q.groups ≡ [] → ⊥) × AsksGroups collection q shape)

-- an index of these fields answers the query: it covers what the query asks, which are paths, and joined forms tell its fields apart
pub record Suits (collection : List ℕ) (ask : query.Ask) (fields : List Path) : Type 0 where
  pub plain : ask.query.groups ≡ []
  pub paths : (f : Field) → Has (asked_fields ask.query) f → (p : Path) × (f ≡ At p)
  pub covers_it : covers (shape_of (Auto collection fields)) (shape_asked collection ask.query) ≡ true
  pub told : (p q : Path) → Has fields p → Has fields q → joined p ≡ joined q → p ≡ q

-- the names of the fields of an index with groups tell them apart
pub record AreTold (groups sums : List Path) : Type 0 where
  pub groups_told : (p q : Path) → Has groups p → Has groups q → joined p ≡ joined q → p ≡ q
  pub sums_told : (p q : Path) → Has sums p → Has sums q → sum_name p ≡ sum_name q → p ≡ q
  pub no_count : (p : Path) → Has groups p → joined p ≡ count_name → ⊥
  pub no_sum : (p q : Path) → Has groups p → Has sums q → joined p ≡ sum_name q → ⊥

-- with groups: it covers what the query asks, which names a path only if it is one of its groups; and names tell its fields apart
pub record SuitsGroups (collection : List ℕ) (ask : query.Ask) (groups sums : List Path) : Type 0 where
  pub grouped : ask.query.groups ≡ [] → ⊥
  pub paths : (p : Path) → Has (asked_fields ask.query ++ selected_fields ask.query) (At p) → Has ask.query.groups p
  pub covers_it : covers (shape_of (AutoReduce collection groups sums)) (shape_asked collection ask.query) ≡ true
  pub told : AreTold groups sums

-- THE ANSWER

-- nothing of the query is refused, it is no query on a whole collection, and an index of this shape is to be made, which covers what it asks
pub record NeedsIndex (M : Machine) (ask : query.Ask) (collection : List ℕ) (shape : Shape) : Type 0 where
  pub origin : ask.query.origin ≡ OfCollection collection
  pub part : is_whole ask.query ≡ false
  pub unrefused : check ask ≡ None
  pub chosen : IsChosen M.world.store M.world.slots (shape_asked collection ask.query) (Make shape)
  pub covers_it : covers (Some shape) (shape_asked collection ask.query) ≡ true

-- The index is made as by an Auto: it follows the others, and all other slots and rows stay as they were. Then the query is answered by it, as it
-- would be if it came again: so what is claimed of answers is claimed of this one.
pub record IsAnsweredByNew (M : Machine) (k : Keeping) (now : ℕ) (ask : query.Ask) (shape : Shape) (replied : Replied) : Type 0 where
  pub new : IsNewIndex M k now (made_name M.world shape) (definition_of shape) (record { reply = Reply.Index (made_name M.world shape); machine = replied.machine })
  pub asks : AsksIndex replied.machine.world ask (new_slot M (made_name M.world shape) (definition_of shape))
  pub reply : replied.reply ≡ answer_by empty replied.machine.world ask (new_slot M (made_name M.world shape) (definition_of shape))

abbrev pub IsMakingAnswer : Machine → Keeping → ℕ → query.Ask → Shape → Replied → Type 0
IsMakingAnswer M k now ask shape replied =
    IsFull M replied
    ⊎ (IsRowRefused M now (Put (index_id (made_name M.world shape)) AnyVector (row_body (definition_of shape)) ∷ []) replied
    ⊎ (IsKeeperFault M k replied ⊎ IsAnsweredByNew M k now ask shape replied))

-- one of these; only the last changes anything
pub data IsAskAnswer (M : Machine) (k : Keeping) (now : ℕ) (ask : query.Ask) (replied : Replied) : Type 0 where
  refused : (refusal : PlanRefusal) → check ask ≡ Some refusal → replied ≡ same_machine M (Reply.BadPlan refusal) → IsAskAnswer M k now ask replied
  no_index : (name : List ℕ) → ask.query.origin ≡ OfIndex name → IsNoIndex M name replied → IsAskAnswer M k now ask replied
  answered : (s : Slot) → AsksIndex M.world ask s → replied ≡ same_machine M (answer_by s.version.table M.world ask s) → IsAskAnswer M k now ask replied
  whole : (collection : List ℕ) → ask.query.origin ≡ OfCollection collection → is_whole ask.query ≡ true → replied ≡ same_machine M (answer_from_collection M.world ask collection)
      → IsAskAnswer M k now ask replied
  making : (collection : List ℕ) (shape : Shape) → NeedsIndex M ask collection shape → IsMakingAnswer M k now ask shape replied → IsAskAnswer M k now ask replied

abbrev pub AskIsAnswered : Machine → Keeping → ℕ → query.Ask → Type 0
AskIsAnswered M k now ask = IsAskAnswer M k now ask (step M k now (Do (Ask ask)))
