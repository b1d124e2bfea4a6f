-- What an expression of the program is.
use Rattle.std.specs.Prelude.{ℕ, List}
use Rattle.index_tree.specs.Trees.{Tree, If, Binary, Unary, Dot, Load, Num, Quoted, Flag, Null, Var}
use Rattle.index_tree.specs.declared.expression.ExprKind.{ExprKind}
use Rattle.index_tree.specs.declared.expression.ExprKind.TheVariants as k

abbrev pub tree_of : ExprKind → Tree
tree_of (k.If a b c) = If a b c
tree_of (k.Binary op a b) = Binary op a b
tree_of (k.Unary op a) = Unary op a
tree_of (k.Dot a name) = Dot a name
tree_of (k.Load a collection) = Load a collection
tree_of (k.Num n) = Num n
tree_of (k.Text s) = Quoted s
tree_of (k.Flag b) = Flag b
tree_of k.Null = Null
tree_of (k.Var name) = Var name
