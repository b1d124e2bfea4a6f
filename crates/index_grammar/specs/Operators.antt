-- The operators among the tokens, and how tightly they bind.
use Rattle.std.specs.Prelude.{ℕ, Option, Some, None}
use Rattle.index_tokens.specs.declared.token.Token.{Token}
use Rattle.index_tokens.specs.declared.token.Token.TheVariants as t
use Rattle.index_tokens.specs.declared.token.Placed.{Placed}
use Rattle.index_tree.specs.declared.expression.BinaryOp.{BinaryOp}
use Rattle.index_tree.specs.declared.expression.BinaryOp.TheVariants as b
use Rattle.index_tree.specs.declared.expression.UnaryOp.{UnaryOp}
use Rattle.index_tree.specs.declared.expression.UnaryOp.TheVariants as u

abbrev pub operator_as : Token → Option BinaryOp
operator_as t.OrOr = Some b.Or
operator_as t.AndAnd = Some b.And
operator_as t.Equals = Some b.Equal
operator_as t.NotEquals = Some b.NotEqual
operator_as t.Below = Some b.Below
operator_as t.AtMost = Some b.AtMost
operator_as t.Above = Some b.Above
operator_as t.AtLeast = Some b.AtLeast
operator_as t.Plus = Some b.Plus
operator_as t.Dash = Some b.Minus
operator_as t.Star = Some b.Times
operator_as t.Slash = Some b.Over
operator_as t.Percent = Some b.Rest
operator_as _ = None

-- an operator between two operands
abbrev pub operator : Placed → Option BinaryOp
operator x = operator_as x.token

abbrev pub sign_as : Token → Option UnaryOp
sign_as t.Bang = Some u.Bang
sign_as t.Dash = Some u.Minus
sign_as _ = None

-- an operator before its operand
abbrev pub sign : Placed → Option UnaryOp
sign x = sign_as x.token

-- The levels of binary operators, from the tightest on: products, sums, orders, equalities, `&&` and `||`.
abbrev pub level_of : BinaryOp → ℕ
level_of b.Times = 1
level_of b.Over = 1
level_of b.Rest = 1
level_of b.Plus = 2
level_of b.Minus = 2
level_of b.Below = 3
level_of b.AtMost = 3
level_of b.Above = 3
level_of b.AtLeast = 3
level_of b.Equal = 4
level_of b.NotEqual = 4
level_of b.And = 5
level_of b.Or = 6

-- the loosest level
abbrev pub loosest : ℕ
loosest = 6
