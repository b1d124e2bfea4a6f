-- The grammar of expressions: which tokens spell which tree.
use Rattle.std.specs.Prelude.{◌≡◌, ℕ, zero, suc, ℤ, List, ◌∷◌, true, false, Some}
use Rattle.index_tokens.specs.declared.token.Token.TheVariants as t
use Rattle.index_tokens.specs.declared.token.Placed.{Placed}
use Rattle.index_tokens.specs.Words.{Tokens, Is, word_true, word_false, word_null, word_load, name, variable, quoted}
use Rattle.index_tree.specs.declared.expression.BinaryOp.{BinaryOp}
use Rattle.index_tree.specs.declared.expression.UnaryOp.{UnaryOp}
use Rattle.index_tree.specs.Trees.{Tree, If, Binary, Unary, Dot, Load, Num, Quoted, Flag, Null, Var}
use Rattle.index_grammar.specs.Operators.{operator, sign, level_of}

pub data Rule : Type 0 where
  -- a whole expression
  Whole : Rule
  -- from 1 to 6 the binary operators of that level; at 0 the operators before an operand
  Level : ℕ → Rule
  -- an operand with the names behind it
  Post : Rule
  Primary : Rule

-- The tokens of the first list up to the second spell the tree by that rule.
pub data Spells : Rule → Tokens → Tree → Tokens → Type 0 where
  -- expr = level6 [ "?" expr ":" expr ]
  plain : {s r : Tokens} {a : Tree} → Spells (Level 6) s a r → Spells Whole s a r
  choice : {s m n r : Tokens} {p q : Placed} {a b c : Tree} →
      Spells (Level 6) s a (p ∷ m) → Is t.Question p → Spells Whole m b (q ∷ n) → Is t.Colon q → Spells Whole n c r → Spells Whole s (If a b c) r
  -- level = tighter { operator tighter }, grouped to the left
  tighter : {n : ℕ} {s r : Tokens} {a : Tree} → Spells (Level n) s a r → Spells (Level (suc n)) s a r
  binary : {n : ℕ} {s m r : Tokens} {o : Placed} {op : BinaryOp} {a b : Tree} →
      Spells (Level (suc n)) s a (o ∷ m) → operator o ≡ Some op → level_of op ≡ suc n → Spells (Level n) m b r → Spells (Level (suc n)) s (Binary op a b) r
  -- level0 = { "!" | "-" } post
  signed : {s r : Tokens} {o : Placed} {op : UnaryOp} {a : Tree} → sign o ≡ Some op → Spells (Level zero) s a r → Spells (Level zero) (o ∷ s) (Unary op a) r
  post : {s r : Tokens} {a : Tree} → Spells Post s a r → Spells (Level zero) s a r
  -- post = primary { "." name }
  first : {s r : Tokens} {a : Tree} → Spells Primary s a r → Spells Post s a r
  point : {s r : Tokens} {p x : Placed} {a : Tree} {n : List ℕ} → Spells Post s a (p ∷ x ∷ r) → Is t.Point p → name x ≡ Some n → Spells Post s (Dot a n) r
  -- primary = number | text | "true" | "false" | "null" | var | "(" expr ")" | "LoadDocument" "(" expr "," text ")"
  number : {r : Tokens} {x : Placed} {n : ℤ} → Is (t.Number n) x → Spells Primary (x ∷ r) (Num n) r
  text : {r : Tokens} {x : Placed} {v : List ℕ} → Is (t.Quoted v) x → Spells Primary (x ∷ r) (Quoted v) r
  yes : {r : Tokens} {x : Placed} → Is word_true x → Spells Primary (x ∷ r) (Flag true) r
  no : {r : Tokens} {x : Placed} → Is word_false x → Spells Primary (x ∷ r) (Flag false) r
  null : {r : Tokens} {x : Placed} → Is word_null x → Spells Primary (x ∷ r) Null r
  var : {r : Tokens} {x : Placed} {n : List ℕ} → variable x ≡ Some n → Spells Primary (x ∷ r) (Var n) r
  parens : {s r : Tokens} {p q : Placed} {a : Tree} → Is t.Open p → Spells Whole s a (q ∷ r) → Is t.Close q → Spells Primary (p ∷ s) a r
  load : {s r : Tokens} {x p k y q : Placed} {a : Tree} {v : List ℕ} →
      Is word_load x → Is t.Open p → Spells Whole s a (k ∷ y ∷ q ∷ r) → Is t.Comma k → quoted y ≡ Some v → Is t.Close q → Spells Primary (x ∷ p ∷ s) (Load a v) r
