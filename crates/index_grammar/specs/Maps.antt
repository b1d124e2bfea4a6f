-- The grammar of maps.
use Rattle.std.specs.Prelude.{◌≡◌, ℕ, List, [], ◌∷◌, ◌++◌, Some}
use Rattle.index_tokens.specs.declared.token.Token.TheVariants as t
use Rattle.index_tokens.specs.declared.token.Placed.{Placed}
use Rattle.index_tokens.specs.Words.{Tokens, Is, word_from, word_in, word_docs, word_where, word_let, word_select, word_new, name, variable}
use Rattle.index_tree.specs.Trees.{Tree, Dot, Var}
use Rattle.index_tree.specs.declared.map_query.Clause.{Clause}
use Rattle.index_tree.specs.declared.map_query.Clause.TheVariants as c
use Rattle.index_grammar.specs.declared.spelled.Origin.{Origin}
use Rattle.index_grammar.specs.declared.spelled.PlacedMember.{PlacedMember}
use Rattle.index_grammar.specs.declared.spelled.SpelledMap.{SpelledMap}
use Rattle.index_grammar.specs.Expressions.{Spells, Whole, Post}

-- ---- which documents

abbrev pub origin_of : List ℕ → List ℕ → Origin
origin_of v n = record { var = v; collection = n }

-- origin = "from" var "in" "docs" "." name
pub data SpellsOrigin : Tokens → Origin → Tokens → Type 0 where
  origin : {r : Tokens} {f x i d p y : Placed} {v n : List ℕ} →
      Is word_from f → variable x ≡ Some v → Is word_in i → Is word_docs d → Is t.Point p → name y ≡ Some n →
      SpellsOrigin (f ∷ x ∷ i ∷ d ∷ p ∷ y ∷ r) (origin_of v n) r

-- ---- clauses

-- clause = "where" expr | "let" var "=" expr
pub data SpellsClause : Tokens → Clause → Tokens → Type 0 where
  filter : {s r : Tokens} {x : Placed} {a : Tree} → Is word_where x → Spells Whole s a r → SpellsClause (x ∷ s) (c.Where a) r
  binding : {s r : Tokens} {l x e : Placed} {v : List ℕ} {a : Tree} →
      Is word_let l → variable x ≡ Some v → Is t.Assign e → Spells Whole s a r → SpellsClause (l ∷ x ∷ e ∷ s) (c.Let v a) r

-- clauses = { clause }
pub data SpellsClauses : Tokens → List Clause → Tokens → Type 0 where
  no_clause : {r : Tokens} → SpellsClauses r [] r
  next_clause : {s m r : Tokens} {cs : List Clause} {a : Clause} → SpellsClauses s cs m → SpellsClause m a r → SpellsClauses s (cs ++ a ∷ []) r

-- ---- members

abbrev pub last_name : Tree → List ℕ
last_name (Var n) = n
last_name (Dot a n) = n
last_name _ = []

abbrev pub placed_member : ℕ → List ℕ → Tree → PlacedMember
placed_member place n a = record { at = place; member = record { name = n; value = a } }

-- member = name "=" expr | var { "." name }
-- A member without a name of its own takes the last name of its path. A path is what begins with a variable and has only names behind it.
pub data SpellsMember : Tokens → PlacedMember → Tokens → Type 0 where
  named : {s r : Tokens} {x e : Placed} {n : List ℕ} {a : Tree} → name x ≡ Some n → Is t.Assign e → Spells Whole s a r → SpellsMember (x ∷ e ∷ s) (placed_member x.at n a) r
  path : {s r : Tokens} {x : Placed} {v : List ℕ} {a : Tree} → variable x ≡ Some v → Spells Post (x ∷ s) a r → SpellsMember (x ∷ s) (placed_member x.at (last_name a) a) r

-- members = member { "," member } [","] "}"
pub data SpellsMembers : Tokens → List PlacedMember → Tokens → Type 0 where
  last : {s r : Tokens} {q : Placed} {a : PlacedMember} → SpellsMember s a (q ∷ r) → Is t.CloseBrace q → SpellsMembers s (a ∷ []) r
  last_comma : {s r : Tokens} {k q : Placed} {a : PlacedMember} → SpellsMember s a (k ∷ q ∷ r) → Is t.Comma k → Is t.CloseBrace q → SpellsMembers s (a ∷ []) r
  more : {s m r : Tokens} {k : Placed} {a : PlacedMember} {ms : List PlacedMember} →
      SpellsMember s a (k ∷ m) → Is t.Comma k → SpellsMembers m ms r → SpellsMembers s (a ∷ ms) r

-- ---- the whole text

-- entry = "select" "new" "{" members
pub data SpellsEntry : Tokens → List PlacedMember → Tokens → Type 0 where
  entry : {s r : Tokens} {x y p : Placed} {ms : List PlacedMember} → Is word_select x → Is word_new y → Is t.OpenBrace p → SpellsMembers s ms r → SpellsEntry (x ∷ y ∷ p ∷ s) ms r

abbrev pub spelled_map : Origin → List Clause → List PlacedMember → SpelledMap
spelled_map from_where cs ms = record { var = from_where.var; collection = from_where.collection; clauses = cs; members = ms }

-- map = origin clauses entry, and the end of the text, behind which nothing counts
pub data SpellsMap : Tokens → SpelledMap → Tokens → Type 0 where
  map : {s m n r : Tokens} {e : Placed} {o : Origin} {cs : List Clause} {ms : List PlacedMember} →
      SpellsOrigin s o m → SpellsClauses m cs n → SpellsEntry n ms (e ∷ r) → Is t.End e → SpellsMap s (spelled_map o cs ms) r
