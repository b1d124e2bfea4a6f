-- What the operators give for values. There is nothing if a number is outside 64 bits or a divisor is zero.
use Rattle.std.specs.Prelude.{ℕ, ℤ, List, ◌++◌, Bool, false, not, ◌&&◌, ◌||◌, Option, Some, None, option_map}
use Rattle.std.specs.declared.cmp.Ordering.{Ordering}
use Rattle.std.specs.Ordering.{int_cmp, is_lt, is_le, is_gt, is_ge}
use Rattle.std.specs.Option.{option_map_or}
use Rattle.spec_data.specs.Data.{Data, null, flag, num, text, object}
use Rattle.spec_data.specs.Folding.{key_cmp}
use Rattle.spec_data.specs.Members.{member}
use Rattle.raven_value.specs.DataEq.{data_eq}
use Rattle.index_tree.specs.declared.expression.BinaryOp.{BinaryOp}
use Rattle.index_tree.specs.declared.expression.BinaryOp.TheVariants as op
use Rattle.index_tree.specs.declared.expression.UnaryOp.{UnaryOp}
use Rattle.index_tree.specs.declared.expression.UnaryOp.TheVariants as sign
use Rattle.index_tree.specs.Dates.{date_part}
use Rattle.index_tree.specs.Numbers.{sum, difference, product, quotient, remainder, negative}

abbrev pub or_null : Option Data → Data
or_null None = null
or_null (Some v) = v

-- of an object its member, and of a text its part of a date
abbrev pub part_of : List ℕ → Data → Data
part_of name (object ms) = or_null (member name ms)
part_of name (text s) = or_null (option_map num (date_part name s))
part_of name other = null

-- only the flag true is true
abbrev pub is_true : Data → Bool
is_true (flag b) = b
is_true other = false

-- of two numbers; of other operands null
abbrev pub arithmetic : (ℤ → ℤ → Option ℤ) → Data → Data → Option Data
arithmetic f (num m) (num n) = option_map num (f m n)
arithmetic f v w = Some null

-- two texts are joined
abbrev pub plus : Data → Data → Option Data
plus (text s) (text t) = Some (text (s ++ t))
plus v w = arithmetic sum v w

-- the order of two numbers or two texts, texts by their bytes; no others have one
abbrev pub standing : Data → Data → Option Ordering
standing (num m) (num n) = Some (int_cmp m n)
standing (text s) (text t) = Some (key_cmp s t)
standing v w = None

abbrev pub in_order : (Ordering → Bool) → Data → Data → Data
in_order by v w = flag (option_map_or by (standing v w) false)

abbrev pub binary : BinaryOp → Data → Data → Option Data
binary op.Or v w = Some (flag (is_true v || is_true w))
binary op.And v w = Some (flag (is_true v && is_true w))
binary op.Equal v w = Some (flag (data_eq v w))
binary op.NotEqual v w = Some (flag (not (data_eq v w)))
binary op.Below v w = Some (in_order is_lt v w)
binary op.AtMost v w = Some (in_order is_le v w)
binary op.Above v w = Some (in_order is_gt v w)
binary op.AtLeast v w = Some (in_order is_ge v w)
binary op.Plus v w = plus v w
binary op.Minus v w = arithmetic difference v w
binary op.Times v w = arithmetic product v w
binary op.Over v w = arithmetic quotient v w
binary op.Rest v w = arithmetic remainder v w

abbrev pub opposite : Data → Option Data
opposite (num n) = option_map num (negative n)
opposite other = Some null

abbrev pub unary : UnaryOp → Data → Option Data
unary sign.Bang v = Some (flag (not (is_true v)))
unary sign.Minus v = opposite v
