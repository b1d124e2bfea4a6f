-- Why the texts of a definition are refused.
use Rattle.std.specs.Prelude.{ℕ, List, codes}

pub data Part : Type 0 where
  OfMap OfReduce : Part

pub data Kind : Type 0 where
  -- no text of the language goes on with this token
  Unexpected : Kind
  -- a variable is not bound at its place, or is bound again
  UnknownName : Kind
  -- a member has the name of one before it
  DuplicateField : Kind
  -- the fields of the reduce are not those of the map
  FieldsDiffer : Kind
  -- the groups of the reduce cannot be reduced once more
  NotReducible : Kind
  -- the text is past a limit
  TooLarge : Kind

-- the cause, and the place of its byte in the text
pub record LangRefusal : Type 0 where
  pub part : Part
  pub at : ℕ
  pub kind : Kind

abbrev pub part_name : Part → List ℕ
part_name OfMap = codes "Map"
part_name OfReduce = codes "Reduce"

abbrev pub kind_name : Kind → List ℕ
kind_name Unexpected = codes "Unexpected"
kind_name UnknownName = codes "UnknownName"
kind_name DuplicateField = codes "DuplicateField"
kind_name FieldsDiffer = codes "FieldsDiffer"
kind_name NotReducible = codes "NotReducible"
kind_name TooLarge = codes "TooLarge"
