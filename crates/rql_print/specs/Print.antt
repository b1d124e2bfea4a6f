-- The canonical text of a query: one text for each tree.
use Rattle.std.specs.Prelude.{ℕ, List, [], ◌∷◌, ◌++◌, Bool, true, false, Option, Some, None, codes, if◌then◌else◌, map}
use Rattle.std.specs.Fmt.{signed_decimal}
use Rattle.spec_data.specs.Scalars.{Scalar, nothing, truth, number, words}
use Rattle.spec_query.specs.Printing.{field_text, part_text, path_text, quoted}
use Rattle.spec_query.specs.Query.{Origin, OfIndex, OfCollection, Operand, Const, Parameter, CompareOp, Cond, Sort, Column, Query}

-- parts with a comma between each two, and a lead before the first
abbrev pub clause : List ℕ → List (List ℕ) → List ℕ
clause lead [] = []
clause lead (part ∷ parts) = lead ++ (part ++ clause (codes ", ") parts)

-- VALUES

abbrev pub scalar_text : Scalar → List ℕ
scalar_text nothing = codes "null"
scalar_text (truth true) = codes "true"
scalar_text (truth false) = codes "false"
scalar_text (number n) = signed_decimal n
scalar_text (words s) = quoted s

abbrev pub value_text : Operand → List ℕ
value_text (Const value) = scalar_text value
value_text (Parameter name) = codes "$" ++ name

-- CONDITIONS

abbrev pub sign : CompareOp → List ℕ
sign CompareOp.Is = codes " = "
sign CompareOp.Not = codes " != "
sign CompareOp.Below = codes " < "
sign CompareOp.AtMost = codes " <= "
sign CompareOp.Above = codes " > "
sign CompareOp.AtLeast = codes " >= "

-- whether it is in parentheses as an operand of `or`, `and` and `not`
abbrev pub is_compound : Cond → Bool
is_compound (Cond.Or a b) = true
is_compound (Cond.And a b) = true
is_compound (Cond.Not a) = true
is_compound other = false

abbrev pub in_parentheses_if : Bool → List ℕ → List ℕ
in_parentheses_if true text = codes "(" ++ (text ++ codes ")")
in_parentheses_if false text = text

abbrev pub cond_text : Cond → List ℕ
cond_text (Cond.Or a b) = in_parentheses_if (is_compound a) (cond_text a) ++ (codes " or " ++ in_parentheses_if (is_compound b) (cond_text b))
cond_text (Cond.And a b) = in_parentheses_if (is_compound a) (cond_text a) ++ (codes " and " ++ in_parentheses_if (is_compound b) (cond_text b))
cond_text (Cond.Not a) = codes "not " ++ in_parentheses_if (is_compound a) (cond_text a)
cond_text (Cond.Exact a) = codes "exact(" ++ (cond_text a ++ codes ")")
cond_text Cond.True = codes "true"
cond_text (Cond.Starts f v) = codes "startsWith(" ++ (field_text f ++ (codes ", " ++ (value_text v ++ codes ")")))
cond_text (Cond.Exists f) = codes "exists(" ++ (field_text f ++ codes ")")
cond_text (Cond.Compare f op v) = field_text f ++ (sign op ++ value_text v)
cond_text (Cond.Between f v w) = field_text f ++ (codes " between " ++ (value_text v ++ (codes " and " ++ value_text w)))
cond_text (Cond.In f vs) = field_text f ++ (codes " in (" ++ (clause [] (map value_text vs) ++ codes ")"))

abbrev pub operand_text : Cond → List ℕ
operand_text cond = in_parentheses_if (is_compound cond) (cond_text cond)

-- QUERIES

abbrev pub source_text : Origin → List ℕ
source_text (OfIndex name) = codes "from index " ++ quoted name
source_text (OfCollection collection) = codes "from " ++ part_text collection

abbrev pub where_text : Option Cond → List ℕ
where_text None = []
where_text (Some cond) = codes " where " ++ cond_text cond

-- texts and the least value first are what stands for no words
abbrev pub sort_text : Sort → List ℕ
sort_text s = field_text s.field ++ ((if s.long then codes " as long" else []) ++ (if s.desc then codes " desc" else []))

abbrev pub name_text : Option (List ℕ) → List ℕ
name_text None = []
name_text (Some name) = codes " as " ++ name

abbrev pub column_text : Column → List ℕ
column_text c = field_text c.field ++ name_text c.name

-- which rows are found
abbrev pub rows_text : Query → List ℕ
rows_text q = source_text q.origin ++ (clause (codes " group by ") (map path_text q.groups) ++ where_text q.cond)

-- what is shown of them, and in which order
abbrev pub shown_text : Query → List ℕ
shown_text q = clause (codes " order by ") (map sort_text q.sorts) ++ (clause (codes " select ") (map column_text q.columns) ++ clause (codes " include ") (map path_text q.includes))

abbrev pub printed : Query → List ℕ
printed q = rows_text q ++ shown_text q
