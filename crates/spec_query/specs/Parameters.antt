-- The values of parameters, and which parameter is refused.
use Rattle.std.specs.Prelude.{ℕ, List, [], ◌∷◌, ◌++◌, if◌then◌else◌, Option, Some, None, is_some, unwrap_or, option_map, codes, flat_map, map}
use Rattle.std.specs.Option.{option_and_then, option_or}
use Rattle.spec_data.specs.Data.{Data, array, object, list_of, entries_of}
use Rattle.spec_data.specs.Members.{member}
use Rattle.spec_data.specs.Rising.{Pairs}
use Rattle.spec_data.specs.Scalars as scalar
use Rattle.spec_data.specs.Scalars.{Scalar, nothing, words, words_in, scalar_of, Test}
use Rattle.spec_query.specs.Condition.{Condition}
use Rattle.spec_query.specs.Query.{Operand, Const, Parameter, CompareOp, Cond}
use Rattle.spec_query.specs.Results.{field_name}

-- lists and objects are no scalars
abbrev pub plain_scalar : Data → Option Scalar
plain_scalar (array ds) = None
plain_scalar (object ms) = None
plain_scalar other = Some (scalar_of other)

abbrev pub plain_scalars : List Data → Option (List Scalar)
plain_scalars [] = Some []
plain_scalars (d ∷ ds) = option_and_then (λ s. option_map (λ more. s ∷ more) (plain_scalars ds)) (plain_scalar d)

-- the items of a list, or one scalar
abbrev pub items_in : Data → Option (List Scalar)
items_in (array ds) = plain_scalars (list_of ds)
items_in other = option_map (λ s. s ∷ []) (plain_scalar other)

abbrev pub scalar_given : Pairs → Operand → Option Scalar
scalar_given ps (Const s) = Some s
scalar_given ps (Parameter name) = option_and_then plain_scalar (member name (entries_of ps))

abbrev pub items_given : Pairs → Operand → Option (List Scalar)
items_given ps (Const s) = Some (s ∷ [])
items_given ps (Parameter name) = option_and_then items_in (member name (entries_of ps))

-- REFUSALS

-- what an operand is used for: a scalar, items of a list, or the text that a value begins with
pub data Use : Type 0 where
  AsScalar AsItems AsPrefix : Operand → Use

-- the operands of a condition in the order of the text
abbrev pub uses : Cond → List Use
uses (Cond.Or a b) = uses a ++ uses b
uses (Cond.And a b) = uses a ++ uses b
uses (Cond.Not a) = uses a
uses (Cond.Exact a) = uses a
uses Cond.True = []
uses (Cond.Starts f v) = AsPrefix v ∷ []
uses (Cond.Exists f) = []
uses (Cond.Compare f op v) = AsScalar v ∷ []
uses (Cond.Between f v w) = AsScalar v ∷ AsScalar w ∷ []
uses (Cond.In f vs) = map AsItems vs

-- the name of a parameter that has no such value
abbrev pub unless_given : {A : Type 0} → Operand → Option A → Option (List ℕ)
unless_given (Const s) given = None
unless_given (Parameter name) given = if is_some given then None else Some name

abbrev pub unless_text : Scalar → Option (List ℕ)
unless_text (words t) = None
unless_text other = Some (codes "startsWith")

-- the name under which a use is refused
abbrev pub use_refused : Pairs → Use → Option (List ℕ)
use_refused ps (AsScalar v) = unless_given v (scalar_given ps v)
use_refused ps (AsItems v) = unless_given v (items_given ps v)
use_refused ps (AsPrefix v) = option_or (unless_given v (scalar_given ps v)) (option_and_then unless_text (scalar_given ps v))

abbrev pub first_refused : Pairs → List Use → Option (List ℕ)
first_refused ps [] = None
first_refused ps (u ∷ us) = option_or (use_refused ps u) (first_refused ps us)

abbrev pub parameter_refused : Pairs → Option Cond → Option (List ℕ)
parameter_refused ps cond = option_and_then (λ c. first_refused ps (uses c)) cond

-- THE CONDITION with values in place of its parameters, of which none is refused

abbrev pub scalar_in : Pairs → Operand → Scalar
scalar_in ps v = unwrap_or (scalar_given ps v) nothing

abbrev pub scalars_in : Pairs → List Operand → List Scalar
scalars_in ps vs = flat_map (λ v. unwrap_or (items_given ps v) []) vs

abbrev pub test_of : CompareOp → Scalar → Test
test_of CompareOp.Is s = scalar.Is s
test_of CompareOp.Not s = scalar.Not s
test_of CompareOp.Below s = scalar.Below s
test_of CompareOp.AtMost s = scalar.AtMost s
test_of CompareOp.Above s = scalar.Above s
test_of CompareOp.AtLeast s = scalar.AtLeast s

abbrev pub bound : Pairs → Cond → Condition
bound ps (Cond.Or a b) = Condition.Or (bound ps a) (bound ps b)
bound ps (Cond.And a b) = Condition.And (bound ps a) (bound ps b)
bound ps (Cond.Not a) = Condition.Not (bound ps a)
bound ps (Cond.Exact a) = Condition.Exact (bound ps a)
bound ps Cond.True = Condition.Always
bound ps (Cond.Starts f v) = Condition.Has (field_name f) (scalar.Starts (words_in (scalar_in ps v)))
bound ps (Cond.Exists f) = Condition.Has (field_name f) scalar.There
bound ps (Cond.Compare f op v) = Condition.Has (field_name f) (test_of op (scalar_in ps v))
bound ps (Cond.Between f v w) = Condition.Has (field_name f) (scalar.Between (scalar_in ps v) (scalar_in ps w))
bound ps (Cond.In f vs) = Condition.Has (field_name f) (scalar.In (scalars_in ps vs))

-- a query without a condition has all rows
abbrev pub bound_where : Pairs → Option Cond → Condition
bound_where ps cond = unwrap_or (option_map (bound ps) cond) Condition.Always
