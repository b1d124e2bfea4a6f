-- Expressions, as plain trees.
use Rattle.std.specs.Prelude.{ℕ, suc, ℤ, List, Bool, max}
use Rattle.index_tree.specs.declared.expression.BinaryOp.{BinaryOp}
use Rattle.index_tree.specs.declared.expression.UnaryOp.{UnaryOp}

pub data Tree : Type 0 where
  If : Tree → Tree → Tree → Tree
  Binary : BinaryOp → Tree → Tree → Tree
  Unary : UnaryOp → Tree → Tree
  Dot : Tree → List ℕ → Tree
  Load : Tree → List ℕ → Tree
  Num : ℤ → Tree
  Quoted : List ℕ → Tree
  Flag : Bool → Tree
  Null : Tree
  Var : List ℕ → Tree

-- how many expressions are within one another
abbrev pub height : Tree → ℕ
height (If a b c) = suc (max (height a) (max (height b) (height c)))
height (Binary op a b) = suc (max (height a) (height b))
height (Unary op a) = suc (height a)
height (Dot a name) = suc (height a)
height (Load a collection) = suc (height a)
height (Num n) = 1
height (Quoted s) = 1
height (Flag b) = 1
height Null = 1
height (Var name) = 1
