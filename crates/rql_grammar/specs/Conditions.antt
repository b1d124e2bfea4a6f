-- The grammar of conditions.
use Rattle.std.specs.Prelude.{◌≡◌, List, ◌∷◌, Bool, true, false, Option, Some, None}
use Rattle.spec_query.specs.Query.{Field, Operand, CompareOp, Below as below, Cond}
use Rattle.rql_tokens.specs.declared.key_words.KeyWord.TheVariants as k
use Rattle.rql_tokens.specs.declared.key_words.Function.{Function}
use Rattle.rql_tokens.specs.declared.key_words.Function.TheVariants as f
use Rattle.rql_tokens.specs.declared.token.Token.{Token}
use Rattle.rql_tokens.specs.declared.token.Token.TheVariants as t
use Rattle.rql_tokens.specs.declared.token.Placed.{Placed}
use Rattle.rql_tokens.specs.Words.{Tokens, Is, function}
use Rattle.rql_grammar.specs.Fields.{SpellsList, SpellsField, SpellsValue}

abbrev pub operator_as : Token → Option CompareOp
operator_as t.Equal = Some CompareOp.Is
operator_as t.NotEqual = Some CompareOp.Not
operator_as t.Below = Some below
operator_as t.AtMost = Some CompareOp.AtMost
operator_as t.Above = Some CompareOp.Above
operator_as t.AtLeast = Some CompareOp.AtLeast
operator_as _ = None

-- a sign between a field and a value
abbrev pub operator : Placed → Option CompareOp
operator x = operator_as x.token

-- whether a call is a test
abbrev pub tests : Option Function → Bool
tests (Some f.StartsWith) = true
tests (Some f.Exists) = true
tests _ = false

-- a field at the start of a test: a name that calls a test is none
pub data SpellsTested : Tokens → Field → Tokens → Type 0 where
  tested : {s r : Tokens} {x : Placed} {a : Field} → tests (function x) ≡ false → SpellsField (x ∷ s) a r → SpellsTested (x ∷ s) a r

pub data Rule : Type 0 where
  -- a whole condition
  Whole : Rule
  -- what `or` stands between, `and` stands between, and `not` stands before
  Conj Neg Test : Rule

-- The tokens of the first list up to the second spell the condition by that rule.
pub data Spells : Rule → Tokens → Cond → Tokens → Type 0 where
  -- cond = conj { "or" conj }, grouped to the left
  conj : {s r : Tokens} {a : Cond} → Spells Conj s a r → Spells Whole s a r
  either : {s m r : Tokens} {o : Placed} {a b : Cond} → Spells Whole s a (o ∷ m) → Is (t.Key k.Or) o → Spells Conj m b r → Spells Whole s (Cond.Or a b) r
  -- conj = neg { "and" neg }, grouped to the left
  neg : {s r : Tokens} {a : Cond} → Spells Neg s a r → Spells Conj s a r
  both : {s m r : Tokens} {o : Placed} {a b : Cond} → Spells Conj s a (o ∷ m) → Is (t.Key k.And) o → Spells Neg m b r → Spells Conj s (Cond.And a b) r
  -- neg = { "not" } test
  denied : {s r : Tokens} {o : Placed} {a : Cond} → Is (t.Key k.Not) o → Spells Neg s a r → Spells Neg (o ∷ s) (Cond.Not a) r
  test : {s r : Tokens} {a : Cond} → Spells Test s a r → Spells Neg s a r
  -- test = "(" cond ")" | "exact" "(" cond ")" | "true"
  parens : {s r : Tokens} {p q : Placed} {a : Cond} → Is t.Open p → Spells Whole s a (q ∷ r) → Is t.Close q → Spells Test (p ∷ s) a r
  exact : {s r : Tokens} {x p q : Placed} {a : Cond} → Is (t.Key k.Exact) x → Is t.Open p → Spells Whole s a (q ∷ r) → Is t.Close q → Spells Test (x ∷ p ∷ s) (Cond.Exact a) r
  always : {r : Tokens} {x : Placed} → Is (t.Key k.True) x → Spells Test (x ∷ r) Cond.True r
  -- | "startsWith" "(" field "," value ")" | "exists" "(" field ")"
  starts : {s m r : Tokens} {x p c q : Placed} {a : Field} {v : Operand} →
      function x ≡ Some f.StartsWith → Is t.Open p → SpellsField s a (c ∷ m) → Is t.Comma c → SpellsValue m v (q ∷ r) → Is t.Close q → Spells Test (x ∷ p ∷ s) (Cond.Starts a v) r
  exists : {s r : Tokens} {x p q : Placed} {a : Field} →
      function x ≡ Some f.Exists → Is t.Open p → SpellsField s a (q ∷ r) → Is t.Close q → Spells Test (x ∷ p ∷ s) (Cond.Exists a) r
  -- | field ("=" | "!=" | "<" | "<=" | ">" | ">=") value
  compare : {s m r : Tokens} {o : Placed} {a : Field} {op : CompareOp} {v : Operand} →
      SpellsTested s a (o ∷ m) → operator o ≡ Some op → SpellsValue m v r → Spells Test s (Cond.Compare a op v) r
  -- | field "between" value "and" value
  between : {s m n r : Tokens} {o c : Placed} {a : Field} {v w : Operand} →
      SpellsTested s a (o ∷ m) → Is (t.Key k.Between) o → SpellsValue m v (c ∷ n) → Is (t.Key k.And) c → SpellsValue n w r → Spells Test s (Cond.Between a v w) r
  -- | field "in" "(" value { "," value } ")"
  among : {s m r : Tokens} {o p q : Placed} {a : Field} {vs : List Operand} →
      SpellsTested s a (o ∷ p ∷ m) → Is (t.Key k.In) o → Is t.Open p → SpellsList t.Comma SpellsValue m vs (q ∷ r) → Is t.Close q → Spells Test s (Cond.In a vs) r
