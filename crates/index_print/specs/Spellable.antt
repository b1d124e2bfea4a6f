-- Which trees a text can spell. Those that are read from a text are such trees.
use Rattle.std.specs.Prelude.{◌≡◌, ◌≤◌, ℕ, ℤ, pos, negsuc, List, [], ◌∷◌, Bool, true, false, ◌||◌, is_some}
use Rattle.std.specs.List.{list_all}
use Rattle.index_tokens.specs.Spelling.{is_letter, is_name_byte, is_reserved, is_raw, max_number}
use Rattle.index_tree.specs.declared.map_query.Clause.{Clause}
use Rattle.index_tree.specs.declared.map_query.Clause.TheVariants as c
use Rattle.index_tree.specs.declared.map_query.MapMember.{MapMember}
use Rattle.index_tree.specs.declared.map_query.MapQuery.{MapQuery}
use Rattle.index_tree.specs.declared.reduce_query.FoldMember.{FoldMember}
use Rattle.index_tree.specs.declared.reduce_query.FoldValue.{FoldValue}
use Rattle.index_tree.specs.declared.reduce_query.FoldValue.TheVariants as f
use Rattle.index_tree.specs.declared.reduce_query.ReduceQuery.{ReduceQuery}
use Rattle.index_tree.specs.Trees.{Tree, If, Binary, Unary, Dot, Load, Num, Quoted, Flag, Null, Var}
use Rattle.index_print.specs.Print.{escape_letter}

-- a letter or `_`, and behind it letters, digits or `_`
abbrev pub IsName : List ℕ → Type 0
IsName [] = ⊥
IsName (byte ∷ bytes) = (is_letter byte ≡ true) × (list_all is_name_byte bytes ≡ true)

abbrev pub IsVariable : List ℕ → Type 0
IsVariable name = IsName name × (is_reserved name ≡ false)

-- what has an escape, or means itself
abbrev pub is_quotable : ℕ → Bool
is_quotable byte = is_some (escape_letter byte) || is_raw byte

-- It holds no control characters but those that have an escape.
abbrev pub IsQuotable : List ℕ → Type 0
IsQuotable value = list_all is_quotable value ≡ true

-- from 0 on
abbrev pub IsNumber : ℤ → Type 0
IsNumber (pos n) = n ≤ max_number
IsNumber (negsuc n) = ⊥

abbrev pub IsSpellable : Tree → Type 0
IsSpellable (If p x y) = IsSpellable p × IsSpellable x × IsSpellable y
IsSpellable (Binary op x y) = IsSpellable x × IsSpellable y
IsSpellable (Unary op x) = IsSpellable x
IsSpellable (Dot x name) = IsSpellable x × IsName name
IsSpellable (Load x collection) = IsSpellable x × IsQuotable collection
IsSpellable (Num n) = IsNumber n
IsSpellable (Quoted value) = IsQuotable value
IsSpellable (Flag flag) = Unit {0}
IsSpellable Null = Unit {0}
IsSpellable (Var name) = IsVariable name

abbrev pub IsSpellableClause : Clause → Type 0
IsSpellableClause (c.Where x) = IsSpellable x
IsSpellableClause (c.Let var x) = IsVariable var × IsSpellable x

abbrev pub IsSpellableMember : MapMember → Type 0
IsSpellableMember m = IsName m.name × IsSpellable m.value

abbrev pub Each : {A : Type 0} → (A → Type 0) → List A → Type 0
Each P [] = Unit {0}
Each P (x ∷ xs) = P x × Each P xs

abbrev pub HasSome : {A : Type 0} → List A → Type 0
HasSome [] = ⊥
HasSome (x ∷ xs) = Unit {0}

-- It has a member, and each name in it is one.
abbrev pub IsSpellableMap : MapQuery → Type 0
IsSpellableMap query =
    IsVariable query.var × IsName query.collection × Each IsSpellableClause query.clauses × HasSome query.members × Each IsSpellableMember query.members

-- the only part of the key, or one of several names
abbrev pub IsKeyPart : List (List ℕ) → List ℕ → Type 0
IsKeyPart (only ∷ []) name = name ≡ only
IsKeyPart names name = IsName name

-- Where the key has one part, a member of the key names that.
abbrev pub NamesPart : List (List ℕ) → FoldValue → Type 0
NamesPart (only ∷ []) (f.Key name) = name ≡ only
NamesPart names value = Unit {0}

abbrev pub IsSpellableValue : List (List ℕ) → FoldValue → Type 0
IsSpellableValue names (f.Key name) = IsKeyPart names name
IsSpellableValue names (f.Fold kind var field) = IsVariable var × IsName field
IsSpellableValue names (f.Quotient var field by_var by) = IsVariable var × IsName field × IsVariable by_var × IsName by

abbrev pub IsSpellableFold : List (List ℕ) → FoldMember → Type 0
IsSpellableFold names m = IsName m.name × IsSpellableValue names m.value

-- It has a key and a member, and each name in it is one.
abbrev pub IsSpellableReduce : ReduceQuery → Type 0
IsSpellableReduce query =
    IsVariable query.var × IsVariable query.group × HasSome query.key × Each IsName query.key × HasSome query.members × Each (IsSpellableFold query.key) query.members

-- ---- what may follow

-- the next byte, if there is one, fails the test
abbrev pub Stops : (ℕ → Bool) → List ℕ → Type 0
Stops test [] = Unit {0}
Stops test (byte ∷ bytes) = test byte ≡ false

-- no byte of a name comes next
abbrev pub IsApart : List ℕ → Type 0
IsApart s = Stops is_name_byte s
