-- The value of an expression.
use Rattle.std.specs.Prelude.{ℕ, List, [], ◌∷◌, true, false, Option, Some, None, if◌then◌else◌}
use Rattle.std.specs.Str.{bytes_eq}
use Rattle.spec_data.specs.Data.{Data, null, flag, num, text}
use Rattle.spec_data.specs.Faults.{is_fit, max_id}
use Rattle.spec_data.specs.Folding.{folded}
use Rattle.spec_data.specs.Rows.{Row, Body, doc, gone}
use Rattle.index_tree.specs.declared.expression.BinaryOp.{BinaryOp}
use Rattle.index_tree.specs.declared.expression.BinaryOp.TheVariants as op
use Rattle.index_tree.specs.Trees.{Tree, If, Binary, Unary, Dot, Load, Num, Quoted, Flag, Null, Var}
use Rattle.index_tree.specs.Asking.{Lookup, Asking, from, gives, ◌>>=◌}
use Rattle.index_tree.specs.Operators.{is_true, part_of, binary, unary}

-- names with their values, the latest first
abbrev pub Bindings : Type 0
Bindings = List (List ℕ × Data)

-- a name that has no value is null; a text with one is not read
abbrev pub value_of : List ℕ → Bindings → Data
value_of name [] = null
value_of name (b ∷ bound) = if bytes_eq name b.0 then b.1 else value_of name bound

abbrev pub document_of : Body → Data
document_of (doc d) = d
document_of gone = null

-- the document of a row that is in the collection
abbrev pub document_in : List ℕ → Option Row → Data
document_in collection None = null
document_in collection (Some r) = if bytes_eq r.collection collection then document_of r.body else null

-- a text that can be an id is asked for, and nothing else is
abbrev pub loaded : Lookup → List ℕ → Data → Asking Data
loaded find collection (text s) =
    if is_fit max_id s then record { outcome = Some (document_in collection (find (folded s))); loads = folded s ∷ [] } else gives null
loaded find collection other = gives null

-- the one or the other, of which only what is needed is computed
abbrev pub chosen : Asking Data → Asking Data → Asking Data → Asking Data
chosen test value other = test >>= λ t. if is_true t then value else other

abbrev pub as_flag : Asking Data → Asking Data
as_flag c = c >>= λ v. gives (flag (is_true v))

-- of both, the left one first
abbrev pub in_turn : BinaryOp → Asking Data → Asking Data → Asking Data
in_turn o left right = left >>= λ v. right >>= λ w. from (binary o v w)

-- `||` and `&&` compute the second operand only if the first does not decide
abbrev pub combined : BinaryOp → Asking Data → Asking Data → Asking Data
combined op.Or left right = chosen left (gives (flag true)) (as_flag right)
combined op.And left right = chosen left (as_flag right) (gives (flag false))
combined o left right = in_turn o left right

abbrev pub evaluate : Lookup → Bindings → Tree → Asking Data
evaluate find bound (If test value other) = chosen (evaluate find bound test) (evaluate find bound value) (evaluate find bound other)
evaluate find bound (Binary o left right) = combined o (evaluate find bound left) (evaluate find bound right)
evaluate find bound (Unary o operand) = evaluate find bound operand >>= λ v. from (unary o v)
evaluate find bound (Dot holder name) = evaluate find bound holder >>= λ v. gives (part_of name v)
evaluate find bound (Load id collection) = evaluate find bound id >>= λ v. loaded find collection v
evaluate find bound (Num n) = gives (num n)
evaluate find bound (Quoted s) = gives (text s)
evaluate find bound (Flag b) = gives (flag b)
evaluate find bound Null = gives null
evaluate find bound (Var name) = gives (value_of name bound)
