-- The reading of fields and values.
use Rattle.std.specs.Prelude.{ℕ, List, [], ◌∷◌, ◌++◌, if◌then◌else◌, Option, Some, None}
use Rattle.exact_parse.specs.Steps.{◌>>=◌, ◌>>◌, pure, refuse, choose, skip, within, counted, take, Next, Ends, More, loop}
use Rattle.spec_data.specs.Members.{Path}
use Rattle.spec_data.specs.Scalars.{Scalar}
use Rattle.spec_query.specs.Query.{Field, At, Count, Sum, Operand, Const, Parameter}
use Rattle.rql_tokens.specs.declared.key_words.Function.{Function}
use Rattle.rql_tokens.specs.declared.key_words.Function.TheVariants as f
use Rattle.rql_tokens.specs.declared.token.Token.{Token}
use Rattle.rql_tokens.specs.declared.token.Token.TheVariants as t
use Rattle.rql_tokens.specs.declared.token.Placed.{Placed}
use Rattle.rql_tokens.specs.Words.{next_is, the, name, function, part}
use Rattle.rql_tokens.specs.Words as words
use Rattle.rql_grammar.specs.Reads.{Kind, Reads, unexpected, large}
use Rattle.rql_grammar.specs.Fields.{constant}
use Rattle.rql_grammar.specs.Limits.{most_fields, is_part}

-- ---- chains

-- goes on behind each token of this kind with what is read there
abbrev pub chain_next : {A B : Type 0} → Token → Reads B → (A → B → A) → A → Option Placed → Next Placed Kind A A
chain_next between item join a h = if next_is between h then More (item >>= λ b. pure (join a b)) else Ends (pure a)

unfoldable pub chain : {A B : Type 0} → Token → Reads B → (A → B → A) → A → Reads A
chain between item join = loop unexpected (chain_next between item join)

abbrev pub added : {A : Type 0} → List A → A → List A
added found a = found ++ a ∷ []

-- one of these or more, with this token between each two
unfoldable pub list : {A : Type 0} → Token → Reads A → Reads (List A)
list between item = item >>= λ a. chain between item added (a ∷ [])

-- ---- paths

abbrev pub part_at : Option Placed → Option (List ℕ)
part_at (Some x) = part x
part_at None = None

abbrev pub part_by : Option (List ℕ) → Reads (List ℕ)
part_by (Some n) = within unexpected (is_part n) (skip >> pure n)
part_by None = refuse unexpected

unfoldable pub one_part : Reads (List ℕ)
one_part = choose (λ h. part_by (part_at h))

unfoldable pub path : Reads Path
path = list t.Point one_part

abbrev pub counted_by : {A : Type 0} → Reads A → Option (List ℕ) → Reads A
counted_by p (Some n) = counted large most_fields p
counted_by p None = refuse unexpected

-- what begins with a part, and counts there
unfoldable pub counting : {A : Type 0} → Reads A → Reads A
counting p = choose (λ h. counted_by p (part_at h))

unfoldable pub counted_path : Reads Path
counted_path = counting path

-- ---- fields

-- behind the word of a call
abbrev pub count_call : Reads Field
count_call = take unexpected (the t.Open) >>= λ _. take unexpected (the t.Close) >>= λ _. pure Count

abbrev pub sum_call : Reads Field
sum_call = take unexpected (the t.Open) >>= λ _. path >>= λ p. take unexpected (the t.Close) >>= λ _. pure (Sum p)

abbrev pub field_by : Option Function → Reads Field
field_by (Some f.Count) = skip >> count_call
field_by (Some f.Sum) = skip >> sum_call
field_by _ = path >>= λ p. pure (At p)

abbrev pub function_at : Option Placed → Option Function
function_at (Some x) = function x
function_at None = None

abbrev pub inside_by : Option Placed → Reads Field
inside_by (Some x) = field_by (function x)
inside_by None = refuse unexpected

unfoldable pub inside : Reads Field
inside = choose inside_by

unfoldable pub field : Reads Field
field = counting inside

-- ---- values

abbrev pub constant_at : Option Placed → Option Scalar
constant_at (Some x) = constant x
constant_at None = None

abbrev pub one_parameter : Reads Operand
one_parameter = take unexpected (the t.Dollar) >>= λ _. take unexpected name >>= λ n. pure (Parameter n)

abbrev pub value_by : Option Scalar → Reads Operand
value_by (Some v) = skip >> pure (Const v)
value_by None = one_parameter

unfoldable pub value : Reads Operand
value = choose (λ h. value_by (constant_at h))
