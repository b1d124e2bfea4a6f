-- The reading of expressions.
use Rattle.std.specs.Prelude.{ℕ, zero, suc, List, Bool, true, false, if◌then◌else◌, codes, nat_eq, Option, Some, None}
use Rattle.std.specs.Str.{bytes_eq}
use Rattle.exact_parse.specs.Steps.{◌>>=◌, ◌>>◌, pure, refuse, choose, skip, within, fresh, take, Next, Ends, Counts, loop}
use Rattle.index_tokens.specs.declared.token.Token.{Token}
use Rattle.index_tokens.specs.declared.token.Token.TheVariants as t
use Rattle.index_tokens.specs.declared.token.Placed.{Placed}
use Rattle.index_tokens.specs.Spelling.{is_reserved}
use Rattle.index_tokens.specs.Words.{next_is, the, name, quoted}
use Rattle.index_tokens.specs.Reads.{Kind, Reads}
use Rattle.index_tree.specs.declared.expression.BinaryOp.{BinaryOp}
use Rattle.index_tree.specs.declared.expression.UnaryOp.{UnaryOp}
use Rattle.index_tree.specs.Trees.{Tree, If, Binary, Unary, Dot, Load, Num, Quoted, Flag, Null, Var}
use Rattle.index_grammar.specs.Operators.{operator, sign, level_of}
use Rattle.index_grammar.specs.Limits.{most_open, most_operators}

-- what may be nested one deeper
pub record Deeper : Type 0 where
  pub has_room : Bool
  pub whole : Reads Tree
  pub unary : Reads Tree

-- ---- names behind points

abbrev pub point_next : Tree → Option Placed → Next Placed Kind Tree Tree
point_next a h = if next_is t.Point h then Counts tt most_operators (take tt name >>= λ n. pure (Dot a n)) else Ends (pure a)

unfoldable pub points : Tree → Reads Tree
points = loop tt point_next

-- ---- the operator of a level

abbrev pub at_level : ℕ → Option BinaryOp → Option BinaryOp
at_level n (Some op) = if nat_eq (level_of op) n then Some op else None
at_level n None = None

-- the operator of this level that comes next
abbrev pub operator_at : ℕ → Option Placed → Option BinaryOp
operator_at n (Some x) = at_level n (operator x)
operator_at n None = None

abbrev pub operator_then : Reads Tree → Tree → Option BinaryOp → Next Placed Kind Tree Tree
operator_then operand a (Some op) = Counts tt most_operators (operand >>= λ b. pure (Binary op a b))
operator_then operand a None = Ends (pure a)

abbrev pub operator_next : Reads Tree → ℕ → Tree → Option Placed → Next Placed Kind Tree Tree
operator_next operand n a h = operator_then operand a (operator_at n h)

-- goes on with the operators of a level
unfoldable pub climb : Reads Tree → ℕ → Tree → Reads Tree
climb operand n = loop tt (operator_next operand n)

-- the operator before an operand that comes next
abbrev pub sign_at : Option Placed → Option UnaryOp
sign_at (Some x) = sign x
sign_at None = None

-- ---- the rules

module _ (deeper : Deeper) where
  -- behind the parenthesis of `LoadDocument`
  abbrev pub loading : Reads Tree
  loading = deeper.whole >>= λ a. take tt (the t.Comma) >>= λ _. take tt quoted >>= λ v. take tt (the t.Close) >>= λ _. pure (Load a v)

  -- `LoadDocument`, behind its word
  unfoldable pub load : Reads Tree
  load = choose (λ h. if next_is t.Open h then within tt deeper.has_room (skip >> loading) else refuse tt)

  -- behind a parenthesis
  abbrev pub closing : Reads Tree
  closing = deeper.whole >>= λ a. take tt (the t.Close) >>= λ _. pure a

  abbrev pub parentheses : Reads Tree
  parentheses = within tt deeper.has_room (skip >> closing)

  abbrev pub reserved_primary : List ℕ → Reads Tree
  reserved_primary w =
      if bytes_eq w (codes "true") then skip >> pure (Flag true) else (
      if bytes_eq w (codes "false") then skip >> pure (Flag false) else (
      if bytes_eq w (codes "null") then skip >> pure Null else (
      if bytes_eq w (codes "LoadDocument") then skip >> load else refuse tt)))

  abbrev pub word_primary : List ℕ → Reads Tree
  word_primary w = if is_reserved w then reserved_primary w else (skip >> pure (Var w))

  abbrev pub primary_as : Token → Reads Tree
  primary_as (t.Number n) = skip >> pure (Num n)
  primary_as (t.Quoted v) = skip >> pure (Quoted v)
  primary_as (t.Word w) = word_primary w
  primary_as t.Open = parentheses
  primary_as _ = refuse tt

  abbrev pub primary_by : Option Placed → Reads Tree
  primary_by (Some x) = primary_as x.token
  primary_by None = refuse tt

  unfoldable pub primary : Reads Tree
  primary = choose primary_by

  unfoldable pub post : Reads Tree
  post = primary >>= points

  abbrev pub unary_as : Option UnaryOp → Reads Tree
  unary_as (Some op) = within tt deeper.has_room (skip >> (deeper.unary >>= λ a. pure (Unary op a)))
  unary_as None = post

  unfoldable pub unary : Reads Tree
  unary = choose (λ h. unary_as (sign_at h))

  unfoldable pub level : ℕ → Reads Tree
  level zero = unary
  level (suc n) = level n >>= climb (level n) (suc n)

  -- behind a question mark
  abbrev pub branches : Tree → Reads Tree
  branches a = deeper.whole >>= λ b. take tt (the t.Colon) >>= λ _. deeper.whole >>= λ c. pure (If a b c)

  unfoldable pub conditional : Tree → Reads Tree
  conditional a = choose (λ h. if next_is t.Question h then within tt deeper.has_room (skip >> branches a) else pure a)

  unfoldable pub whole : Reads Tree
  whole = level 6 >>= conditional

-- what may be nested, with so much room
unfoldable pub deeper_of : ℕ → Deeper
deeper_of zero = record { has_room = false; whole = refuse tt; unary = refuse tt }
deeper_of (suc room) = record { has_room = true; whole = whole (deeper_of room); unary = unary (deeper_of room) }

-- an expression of its own, whose operators and points are counted anew
unfoldable pub expression : Reads Tree
expression = fresh (whole (deeper_of most_open))
