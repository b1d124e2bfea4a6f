-- A code for trees, by which a proof knows them apart.
use Rattle.std.specs.Prelude.{◌≡◌, ℕ, refl}
use Rattle.std.proofs.Common.{ap}
use base.Stored.{Gv, gnil, gnum, gcons, Coded, coded_bool, coded_ℤ}
use Rattle.spec_data.specs.Coding.{first, rest, tag, text_code}
use Rattle.index_tree.specs.declared.expression.BinaryOp.{BinaryOp}
use Rattle.index_tree.specs.declared.expression.BinaryOp.TheVariants as b
use Rattle.index_tree.specs.declared.expression.UnaryOp.{UnaryOp}
use Rattle.index_tree.specs.declared.expression.UnaryOp.TheVariants as u
use Rattle.index_tree.specs.Trees.{Tree, If, Binary, Unary, Dot, Load, Num, Quoted, Flag, Null, Var}

abbrev binary_number : BinaryOp → ℕ
binary_number b.Or = 0
binary_number b.And = 1
binary_number b.Equal = 2
binary_number b.NotEqual = 3
binary_number b.Below = 4
binary_number b.AtMost = 5
binary_number b.Above = 6
binary_number b.AtLeast = 7
binary_number b.Plus = 8
binary_number b.Minus = 9
binary_number b.Times = 10
binary_number b.Over = 11
binary_number b.Rest = 12

pub binary_number_inj : (x y : BinaryOp) → binary_number x ≡ binary_number y → x ≡ y
binary_number_inj b.Or b.Or p = refl
binary_number_inj b.And b.And p = refl
binary_number_inj b.Equal b.Equal p = refl
binary_number_inj b.NotEqual b.NotEqual p = refl
binary_number_inj b.Below b.Below p = refl
binary_number_inj b.AtMost b.AtMost p = refl
binary_number_inj b.Above b.Above p = refl
binary_number_inj b.AtLeast b.AtLeast p = refl
binary_number_inj b.Plus b.Plus p = refl
binary_number_inj b.Minus b.Minus p = refl
binary_number_inj b.Times b.Times p = refl
binary_number_inj b.Over b.Over p = refl
binary_number_inj b.Rest b.Rest p = refl
binary_number_inj _ _ p = cc

abbrev unary_number : UnaryOp → ℕ
unary_number u.Bang = 0
unary_number u.Minus = 1

pub unary_number_inj : (x y : UnaryOp) → unary_number x ≡ unary_number y → x ≡ y
unary_number_inj u.Bang u.Bang p = refl
unary_number_inj u.Minus u.Minus p = refl
unary_number_inj _ _ p = cc

abbrev tree_gv : Tree → Gv
tree_gv (If x y z) = gcons (gnum 0) (gcons (tree_gv x) (gcons (tree_gv y) (tree_gv z)))
tree_gv (Binary op x y) = gcons (gnum 1) (gcons (gnum (binary_number op)) (gcons (tree_gv x) (tree_gv y)))
tree_gv (Unary op x) = gcons (gnum 2) (gcons (gnum (unary_number op)) (tree_gv x))
tree_gv (Dot x name) = gcons (gnum 3) (gcons (tree_gv x) (text_code.code name))
tree_gv (Load x name) = gcons (gnum 4) (gcons (tree_gv x) (text_code.code name))
tree_gv (Num n) = gcons (gnum 5) (coded_ℤ.code n)
tree_gv (Quoted s) = gcons (gnum 6) (text_code.code s)
tree_gv (Flag f) = gcons (gnum 7) (coded_bool.code f)
tree_gv Null = gcons (gnum 8) gnil
tree_gv (Var name) = gcons (gnum 9) (text_code.code name)

pub tree_gv_inj : (x y : Tree) → tree_gv x ≡ tree_gv y → x ≡ y
tree_gv_inj (If x y z) (If l m n) p = λ i. If (tree_gv_inj x l (ap (λ g. first (rest g)) p) i) (tree_gv_inj y m (ap (λ g. first (rest (rest g))) p) i) (tree_gv_inj z n (ap (λ g. rest (rest (rest g))) p) i)
tree_gv_inj (Binary o x y) (Binary q l m) p = λ i. Binary (binary_number_inj o q (ap (λ g. tag (first (rest g))) p) i) (tree_gv_inj x l (ap (λ g. first (rest (rest g))) p) i) (tree_gv_inj y m (ap (λ g. rest (rest (rest g))) p) i)
tree_gv_inj (Unary o x) (Unary q l) p = λ i. Unary (unary_number_inj o q (ap (λ g. tag (first (rest g))) p) i) (tree_gv_inj x l (ap (λ g. rest (rest g)) p) i)
tree_gv_inj (Dot x a) (Dot l d) p = λ i. Dot (tree_gv_inj x l (ap (λ g. first (rest g)) p) i) (text_code.inj a d (ap (λ g. rest (rest g)) p) i)
tree_gv_inj (Load x a) (Load l d) p = λ i. Load (tree_gv_inj x l (ap (λ g. first (rest g)) p) i) (text_code.inj a d (ap (λ g. rest (rest g)) p) i)
tree_gv_inj (Num a) (Num d) p = ap Num (coded_ℤ.inj a d (ap rest p))
tree_gv_inj (Quoted a) (Quoted d) p = ap Quoted (text_code.inj a d (ap rest p))
tree_gv_inj (Flag a) (Flag d) p = ap Flag (coded_bool.inj a d (ap rest p))
tree_gv_inj Null Null p = refl
tree_gv_inj (Var a) (Var d) p = ap Var (text_code.inj a d (ap rest p))
tree_gv_inj _ _ p = let q = ap tag p in cc

abbrev pub tree_code : Coded Tree
tree_code = record { code = tree_gv; inj = tree_gv_inj }
