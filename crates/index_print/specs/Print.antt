-- The canonical spelling of maps and reduces: the bytes of each tree.
use Rattle.std.specs.Prelude.{ℕ, List, [], ◌∷◌, ◌++◌, Bool, true, false, ◌==◌, if◌then◌else◌, Option, Some, None, map, flat_map, codes}
use Rattle.std.specs.Fmt.{signed_decimal}
use Rattle.index_tree.specs.declared.expression.BinaryOp.{BinaryOp}
use Rattle.index_tree.specs.declared.expression.BinaryOp.TheVariants as b
use Rattle.index_tree.specs.declared.expression.UnaryOp.{UnaryOp}
use Rattle.index_tree.specs.declared.expression.UnaryOp.TheVariants as u
use Rattle.index_tree.specs.declared.map_query.Clause.{Clause}
use Rattle.index_tree.specs.declared.map_query.Clause.TheVariants as c
use Rattle.index_tree.specs.declared.map_query.MapMember.{MapMember}
use Rattle.index_tree.specs.declared.map_query.MapQuery.{MapQuery}
use Rattle.index_tree.specs.declared.reduce_query.FoldKind.{FoldKind}
use Rattle.index_tree.specs.declared.reduce_query.FoldKind.TheVariants as k
use Rattle.index_tree.specs.declared.reduce_query.FoldMember.{FoldMember}
use Rattle.index_tree.specs.declared.reduce_query.FoldValue.{FoldValue}
use Rattle.index_tree.specs.declared.reduce_query.FoldValue.TheVariants as f
use Rattle.index_tree.specs.declared.reduce_query.ReduceQuery.{ReduceQuery}
use Rattle.index_tree.specs.Trees.{Tree, If, Binary, Unary, Dot, Load, Num, Quoted, Flag, Null, Var}

-- TEXTS

-- the letter that means this byte after a backslash, if the byte does not mean itself
abbrev pub escape_letter : ℕ → Option ℕ
escape_letter byte =
    if byte == 34 then Some 34 else (
    if byte == 92 then Some 92 else (
    if byte == 10 then Some 110 else (
    if byte == 13 then Some 114 else (
    if byte == 9 then Some 116 else None))))

abbrev pub behind_backslash : ℕ → Option ℕ → List ℕ
behind_backslash byte (Some letter) = 92 ∷ letter ∷ []
behind_backslash byte None = byte ∷ []

abbrev pub escaped : ℕ → List ℕ
escaped byte = behind_backslash byte (escape_letter byte)

abbrev pub quoted : List ℕ → List ℕ
quoted value = 34 ∷ (flat_map escaped value ++ 34 ∷ [])

-- EXPRESSIONS

abbrev pub sign : BinaryOp → List ℕ
sign b.Or = codes "||"
sign b.And = codes "&&"
sign b.Equal = codes "=="
sign b.NotEqual = codes "!="
sign b.Below = codes "<"
sign b.AtMost = codes "<="
sign b.Above = codes ">"
sign b.AtLeast = codes ">="
sign b.Plus = codes "+"
sign b.Minus = codes "-"
sign b.Times = codes "*"
sign b.Over = codes "/"
sign b.Rest = codes "%"

abbrev pub mark : UnaryOp → List ℕ
mark u.Bang = codes "!"
mark u.Minus = codes "-"

-- whether it is in parentheses as an operand
abbrev pub is_compound : Tree → Bool
is_compound (If p x y) = true
is_compound (Binary op x y) = true
is_compound (Unary op x) = true
is_compound _ = false

abbrev pub in_parentheses_if : Bool → List ℕ → List ℕ
in_parentheses_if true text = codes "(" ++ (text ++ codes ")")
in_parentheses_if false text = text

abbrev pub printed : Tree → List ℕ
printed (If p x y) =
    in_parentheses_if (is_compound p) (printed p) ++ (codes " ? " ++ (in_parentheses_if (is_compound x) (printed x) ++ (codes " : " ++ in_parentheses_if (is_compound y) (printed y))))
printed (Binary op x y) = in_parentheses_if (is_compound x) (printed x) ++ (codes " " ++ (sign op ++ (codes " " ++ in_parentheses_if (is_compound y) (printed y))))
printed (Unary op x) = mark op ++ in_parentheses_if (is_compound x) (printed x)
printed (Dot x name) = in_parentheses_if (is_compound x) (printed x) ++ (codes "." ++ name)
printed (Load x collection) = codes "LoadDocument(" ++ (printed x ++ (codes ", " ++ (quoted collection ++ codes ")")))
printed (Num n) = signed_decimal n
printed (Quoted value) = quoted value
printed (Flag true) = codes "true"
printed (Flag false) = codes "false"
printed Null = codes "null"
printed (Var name) = name

-- an operand, or what a point follows
abbrev pub operand : Tree → List ℕ
operand x = in_parentheses_if (is_compound x) (printed x)

-- MAPS

-- with a comma and a space between two of them
abbrev pub listed : List (List ℕ) → List ℕ
listed [] = []
listed (part ∷ parts) = part ++ flat_map (λ next. codes ", " ++ next) parts

-- a clause, and the space before it
abbrev pub clause : Clause → List ℕ
clause (c.Where x) = codes " where " ++ printed x
clause (c.Let var x) = codes " let " ++ (var ++ (codes " = " ++ printed x))

abbrev pub member : MapMember → List ℕ
member m = m.name ++ (codes " = " ++ printed m.value)

-- which documents
abbrev pub origin : List ℕ → List ℕ → List ℕ
origin var collection = codes "from " ++ (var ++ (codes " in docs." ++ collection))

abbrev pub printed_map : MapQuery → List ℕ
printed_map query =
    origin query.var query.collection ++ (flat_map clause query.clauses ++ (codes " select new { " ++ (listed (map member query.members) ++ codes " }")))

-- REDUCES

-- a field of an entry
abbrev pub part : List ℕ → List ℕ → List ℕ
part var name = var ++ (codes "." ++ name)

-- a key of one part without `new`
abbrev pub key : List ℕ → List (List ℕ) → List ℕ
key var (name ∷ []) = part var name
key var names = codes "new { " ++ (listed (map (part var) names) ++ codes " }")

abbrev pub fold_name : FoldKind → List ℕ
fold_name k.Sum = codes "Sum"
fold_name k.Min = codes "Min"
fold_name k.Max = codes "Max"

-- a part of the key, which has no name if it is the whole key
abbrev pub key_part : List (List ℕ) → List ℕ → List ℕ
key_part (only ∷ []) name = codes ".Key"
key_part names name = codes ".Key." ++ name

abbrev pub fold : FoldKind → List ℕ → List ℕ → List ℕ
fold kind var field = codes "." ++ (fold_name kind ++ (codes "(" ++ (var ++ (codes " => " ++ (part var field ++ codes ")")))))

abbrev pub fold_value : List ℕ → List (List ℕ) → FoldValue → List ℕ
fold_value group names (f.Key name) = group ++ key_part names name
fold_value group names (f.Fold kind var field) = group ++ fold kind var field
fold_value group names (f.Quotient var field by_var by) = group ++ (fold k.Sum var field ++ (codes " / " ++ (group ++ fold k.Sum by_var by)))

abbrev pub fold_member : List ℕ → List (List ℕ) → FoldMember → List ℕ
fold_member group names m = m.name ++ (codes " = " ++ fold_value group names m.value)

-- which entries make a group
abbrev pub grouping : List ℕ → List (List ℕ) → List ℕ
grouping var names = codes "from " ++ (var ++ (codes " in results group " ++ (var ++ (codes " by " ++ key var names))))

abbrev pub printed_reduce : ReduceQuery → List ℕ
printed_reduce query =
    grouping query.var query.key ++ (codes " into " ++ (query.group ++ (codes " select new { " ++ (listed (map (fold_member query.group query.key) query.members) ++ codes " }"))))
