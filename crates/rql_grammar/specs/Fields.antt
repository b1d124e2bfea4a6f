-- The grammar of fields and values.
use Rattle.std.specs.Prelude.{◌≡◌, ℕ, List, [], ◌∷◌, ◌++◌, Bool, true, false, Option, Some, None}
use Rattle.spec_data.specs.Members.{Path}
use Rattle.spec_data.specs.Scalars.{Scalar, nothing, truth, number, words}
use Rattle.spec_query.specs.Query.{Field, At, Count, Sum, Operand, Const, Parameter}
use Rattle.rql_tokens.specs.declared.key_words.KeyWord.TheVariants as k
use Rattle.rql_tokens.specs.declared.key_words.Function.{Function}
use Rattle.rql_tokens.specs.declared.key_words.Function.TheVariants as f
use Rattle.rql_tokens.specs.declared.token.Token.{Token}
use Rattle.rql_tokens.specs.declared.token.Token.TheVariants as t
use Rattle.rql_tokens.specs.declared.token.Placed.{Placed}
use Rattle.rql_tokens.specs.Words.{Tokens, Is, name, function, part}

-- one of these or more, with this token between each two
pub data SpellsList {A : Type 0} (between : Token) (X : Tokens → A → Tokens → Type 0) : Tokens → List A → Tokens → Type 0 where
  one : {s r : Tokens} {a : A} → X s a r → SpellsList between X s (a ∷ []) r
  more : {s m r : Tokens} {p : Placed} {found : List A} {a : A} → SpellsList between X s found (p ∷ m) → Is between p → X m a r → SpellsList between X s (found ++ a ∷ []) r

-- ---- paths

-- part = name | text
pub data SpellsPart : Tokens → List ℕ → Tokens → Type 0 where
  one_part : {r : Tokens} {x : Placed} {n : List ℕ} → part x ≡ Some n → SpellsPart (x ∷ r) n r

-- path = part { "." part }
abbrev pub SpellsPath : Tokens → Path → Tokens → Type 0
SpellsPath s path r = SpellsList t.Point SpellsPart s path r

-- ---- fields

-- whether a call is a field
abbrev pub folds : Option Function → Bool
folds (Some f.Count) = true
folds (Some f.Sum) = true
folds _ = false

-- field = path | "count" "(" ")" | "sum" "(" path ")"
-- A name that is a call is no path.
pub data SpellsField : Tokens → Field → Tokens → Type 0 where
  at_path : {s r : Tokens} {x : Placed} {path : Path} → folds (function x) ≡ false → SpellsPath (x ∷ s) path r → SpellsField (x ∷ s) (At path) r
  count : {r : Tokens} {x p q : Placed} → function x ≡ Some f.Count → Is t.Open p → Is t.Close q → SpellsField (x ∷ p ∷ q ∷ r) Count r
  sum : {s r : Tokens} {x p q : Placed} {path : Path} →
      function x ≡ Some f.Sum → Is t.Open p → SpellsPath s path (q ∷ r) → Is t.Close q → SpellsField (x ∷ p ∷ s) (Sum path) r

-- ---- values

abbrev pub constant_as : Token → Option Scalar
constant_as (t.Quoted v) = Some (words v)
constant_as (t.Number n) = Some (number n)
constant_as (t.Key k.True) = Some (truth true)
constant_as (t.Key k.False) = Some (truth false)
constant_as (t.Key k.Null) = Some nothing
constant_as _ = None

-- a value of one token
abbrev pub constant : Placed → Option Scalar
constant x = constant_as x.token

-- value = text | number | "true" | "false" | "null" | "$" name
pub data SpellsValue : Tokens → Operand → Tokens → Type 0 where
  written : {r : Tokens} {x : Placed} {v : Scalar} → constant x ≡ Some v → SpellsValue (x ∷ r) (Const v) r
  parameter : {r : Tokens} {d x : Placed} {n : List ℕ} → Is t.Dollar d → name x ≡ Some n → SpellsValue (d ∷ x ∷ r) (Parameter n) r
