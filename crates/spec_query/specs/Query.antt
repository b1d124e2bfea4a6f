-- Queries: what the text of one says, however it is spelled.
use Rattle.std.specs.Prelude.{ℕ, ℤ, List, [], ◌∷◌, Bool, true, false, not, ◌&&◌, Option, is_none}
use Rattle.spec_data.specs.Members.{Path}
use Rattle.spec_data.specs.Rising.{Pairs}
use Rattle.spec_data.specs.Scalars.{Scalar}

-- the index of a name, or a collection
pub data Origin : Type 0 where
  OfIndex : (name : List ℕ) → Origin
  OfCollection : (collection : List ℕ) → Origin

-- the value at a path, the number of the entries of a group, or the sum of their values at a path
pub data Field : Type 0 where
  At : (path : Path) → Field
  Count : Field
  Sum : (path : Path) → Field

-- a value, or the parameter of a name
pub data Operand : Type 0 where
  Const : (value : Scalar) → Operand
  Parameter : (name : List ℕ) → Operand

pub data CompareOp : Type 0 where
  Is Not Below AtMost Above AtLeast : CompareOp

pub data Cond : Type 0 where
  Or And : Cond → Cond → Cond
  Not : Cond → Cond
  -- inside it texts are compared by their bytes
  Exact : Cond → Cond
  True : Cond
  Starts : Field → Operand → Cond
  Exists : Field → Cond
  Compare : Field → CompareOp → Operand → Cond
  Between : Field → Operand → Operand → Cond
  In : Field → List Operand → Cond

-- a key of the order: whether values are compared as numbers or as texts, and whether the greatest comes first
pub record Sort : Type 0 where
  pub field : Field
  pub long : Bool
  pub desc : Bool

-- a field of the results, and the name that the query gives to it
pub record Column : Type 0 where
  pub field : Field
  pub name : Option (List ℕ)

pub record Query : Type 0 where
  pub origin : Origin
  pub groups : List Path
  pub cond : Option Cond
  pub sorts : List Sort
  pub columns : List Column
  pub includes : List Path

-- a query, its parameters and its page; up to which etag a row makes its answer stale, and how often it looks for a fresh one
pub record Ask : Type 0 where
  pub query : Query
  pub parameters : Pairs
  pub start : ℤ
  pub size : Option ℤ
  pub cutoff : Option ℕ
  pub waits : Bool
  pub looks : ℕ

abbrev pub is_empty : {X : Type 0} → List X → Bool
is_empty [] = true
is_empty (x ∷ xs) = false

abbrev pub is_of_index : Query → Bool
is_of_index q = elim q.origin [ OfIndex name ↦ true | OfCollection collection ↦ false ]

-- a query on a whole collection has no group, no condition and no order
abbrev pub is_whole : Query → Bool
is_whole q = not (is_of_index q) && is_empty q.groups && is_none q.cond && is_empty q.sorts

-- any other query on a collection is answered by an automatic index
abbrev pub is_dynamic : Query → Bool
is_dynamic q = not (is_of_index q) && not (is_whole q)
