-- What is spelled as an expression is read, unless it is past a limit, and then refused there.
use Rattle.std.proofs.Common.{◌≡◌, ℕ, zero, suc, ◌<◌, true, false, List, [], ◌∷◌, Some, None, refl, sym, ◌∙◌, ap, subst, arith, cond}
use Rattle.exact_parse.specs.Steps.{head, Read, ◌>>=◌, ◌>>◌, pure, refuse, skip, within, take, Counts, Ends}
use Rattle.exact_parse.specs.Limits.{Fine, and_fine, opens}
use Rattle.exact_parse.specs.Exact.{Meets}
use Rattle.exact_parse.proofs.Meeting.{then_meets, after_meets, ComesTo, loop_begins, loop_goes_on_counted, loop_stops}
use Rattle.index_tokens.specs.declared.token.Token.{Token}
use Rattle.index_tokens.specs.declared.token.Token.TheVariants as t
use Rattle.index_tokens.specs.declared.token.Placed.{Placed}
use Rattle.index_tokens.specs.Reads.{Reads}
use Rattle.index_tokens.specs.Words.{Tokens, Is, next_is, word_true, word_false, word_null, word_load, the, name, variable, quoted}
use Rattle.index_tokens.proofs.WordLemmas.{variable_is}
use Rattle.index_tree.specs.declared.expression.BinaryOp.{BinaryOp}
use Rattle.index_tree.specs.declared.expression.UnaryOp.{UnaryOp}
use Rattle.index_tree.specs.Trees.{Tree, If, Binary, Unary, Dot, Load, Num, Quoted, Flag, Null, Var}
use Rattle.index_grammar.specs.Operators.{operator, sign_as, sign, level_of}
use Rattle.index_grammar.specs.Expressions.{Rule, Whole, Level, Post, Primary, Spells, plain, choice, tighter, binary, signed, post, first, point, number, text, yes, no, null, var, parens, load}
use Rattle.index_grammar.specs.Limits.{most_open, most_operators, verdict}
use Rattle.index_grammar.specs.ExpressionReading as read
use Rattle.index_grammar.specs.ExpressionReading.{Deeper, deeper_of}
use Rattle.index_tokens.proofs.Taking.{test_at, the_reads, name_reads, quoted_reads}
use Rattle.index_grammar.proofs.Following.{looseness_as, looseness, ends_expression, points_end, no_operator, operator_is, operator_loose, no_question}
use Rattle.index_grammar.proofs.ExpressionKeeps.{Behind, points_keep, climb_keeps, level_at}

module _ (room : ℕ) where
  abbrev deeper : Deeper
  deeper = deeper_of room

  -- what a rule's reading gives at a spelling, if what follows does not go on with it
  abbrev pub Reach : (rule : Rule) {s r : Tokens} {a : Tree} → Spells rule s a r → ℕ → Tokens → Tree → Tokens → Type 0
  Reach Whole x n s a r = 7 < looseness (head r) → Meets (verdict x room n) a r (read.whole deeper n s)
  Reach (Level zero) x n s a r = 0 < looseness (head r) → Meets (verdict x room n) a r (read.unary deeper n s)
  Reach (Level (suc k)) x n s a r = k < looseness (head r) → ComesTo (read.climb (read.level deeper k) (suc k)) (verdict x room n) a r (read.level deeper (suc k) n s)
  Reach Post x n s a r = ComesTo read.points (verdict x room n) a r (read.post deeper n s)
  Reach Primary x n s a r = Meets (verdict x room n) a r (read.primary deeper n s)

  -- a level to its end
  level_read : (k : ℕ) {s r : Tokens} {a : Tree} (x : Spells (Level k) s a r) (n : ℕ) → Reach (Level k) x n s a r → k < looseness (head r) →
      Meets (verdict x room n) a r (read.level deeper k n s)
  unfolding read.level read.climb
  level_read zero x n h low = h low
  level_read (suc k) {s = s} {r = r} {a = a} x n h low = loop_stops tt (Behind (Level (suc k))) (read.operator_next (read.level deeper k) (suc k)) (climb_keeps k (read.level deeper k) (level_at room k))
      (verdict x room n) a r (read.level deeper (suc k) n s) a (ap (read.operator_then (read.level deeper k) a) (no_operator (suc k) r low)) (h (omega (arith, low)))

  -- names behind points to their end
  post_read : {s r : Tokens} {a : Tree} (x : Spells Post s a r) (n : ℕ) → Reach Post x n s a r → 0 < looseness (head r) → Meets (verdict x room n) a r (read.post deeper n s)
  unfolding read.points
  post_read {s = s} {r = r} {a = a} x n h low = loop_stops tt (Behind Post) read.point_next points_keep (verdict x room n) a r (read.post deeper n s) a (points_end a r low) h

  tighter_reach : (k : ℕ) {s r : Tokens} {a : Tree} (x : Spells (Level k) s a r) (n : ℕ) → Reach (Level k) x n s a r → Reach (Level (suc k)) (tighter x) n s a r
  unfolding read.level
  tighter_reach k {s = s} {r = r} {a = a} x n h low = loop_begins (read.climb (read.level deeper k) (suc k)) (verdict x room n) a r (read.level deeper k n s) (level_read k x n h low)

  binary_reach : (k : ℕ) {s m r : Tokens} {o : Placed} {op : BinaryOp} {a b : Tree} (x : Spells (Level (suc k)) s a (o ∷ m)) (is : operator o ≡ Some op) (at : level_of op ≡ suc k) (y : Spells (Level k) m b r) (n : ℕ) →
      Reach (Level (suc k)) x n s a (o ∷ m) → ((n : ℕ) → Reach (Level k) y n m b r) → Reach (Level (suc k)) (binary x is at y) n s (Binary op a b) r
  unfolding read.climb
  binary_reach k {s = s} {m = m} {r = r} {o = o} {op = op} {a = a} {b = b} x is at y n h i low =
      loop_goes_on_counted tt (Behind (Level (suc k))) (read.operator_next (read.level deeper k) (suc k)) (climb_keeps k (read.level deeper k) (level_at room k))
      (verdict x room n) a o m (read.level deeper (suc k) n s) tt most_operators (read.level deeper k >>= λ b. pure (Binary op a b)) (λ n. verdict y room n) (Binary op a b) r
      (h (operator_loose k o op is at)) (ap (read.operator_then (read.level deeper k) a) (operator_is (suc k) o op is at))
      (λ n. after_meets (verdict y room n) b r (read.level deeper k n m) (λ b. pure (Binary op a b)) (Binary op a b) r (level_read k y n (i n) low) (λ n. refl))

  point_reach : {s r : Tokens} {p x : Placed} {a : Tree} {v : List ℕ} (y : Spells Post s a (p ∷ x ∷ r)) (is : Is t.Point p) (also : name x ≡ Some v) (n : ℕ) →
      Reach Post y n s a (p ∷ x ∷ r) → Reach Post (point y is also) n s (Dot a v) r
  unfolding read.points
  point_reach {s = s} {r = r} {p = p} {x = x} {a = a} {v = v} y is also n h =
      loop_goes_on_counted tt (Behind Post) read.point_next points_keep (verdict y room n) a p (x ∷ r) (read.post deeper n s) tt most_operators (take tt name >>= λ v. pure (Dot a v)) (λ n. Fine n) (Dot a v) r
      h (ap (λ d. cond d (Counts tt most_operators (take tt name >>= λ v. pure (Dot a v))) (Ends (pure a))) (test_at t.Point t.Point true p refl is)) (λ n. name_reads x v (λ v. pure (Dot a v)) also n r)

  first_reach : {s r : Tokens} {a : Tree} (x : Spells Primary s a r) (n : ℕ) → Reach Primary x n s a r → Reach Post (first x) n s a r
  unfolding read.post
  first_reach {s = s} {r = r} {a = a} x n h = loop_begins read.points (verdict x room n) a r (read.primary deeper n s) h

  -- ---- primaries of one token

  primary_is : (x : Placed) (u : Token) (r : Tokens) (a : Tree) → Is u x → ((n : ℕ) → read.primary_as deeper u n (x ∷ r) ≡ Read a n r) → (n : ℕ) → read.primary deeper n (x ∷ r) ≡ Read a n r
  unfolding read.primary
  primary_is x u r a is h n = ap (λ u. read.primary_as deeper u n (x ∷ r)) is ∙ h n

  pub var_reach : (x : Placed) (v : List ℕ) (r : Tokens) → variable x ≡ Some v → (n : ℕ) → read.primary deeper n (x ∷ r) ≡ Read (Var v) n r
  var_reach x v r is n = let w = variable_is x v is in
      primary_is x (t.Word v) r (Var v) w.0 (λ n. ap (λ d. cond d (read.reserved_primary deeper v) (skip >> pure (Var v)) n (x ∷ r)) w.1) n

  -- ---- the whole

  plain_reach : {s r : Tokens} {a : Tree} (x : Spells (Level 6) s a r) (n : ℕ) → Reach (Level 6) x n s a r → Reach Whole (plain x) n s a r
  unfolding read.whole read.conditional
  plain_reach {s = s} {r = r} {a = a} x n h low = after_meets (verdict x room n) a r (read.level deeper 6 n s) (read.conditional deeper) a r (level_read 6 x n h (omega (arith, low))) (λ n. ends r low n)
    where
      ends : (r : Tokens) → 7 < looseness (head r) → (n : ℕ) → cond (next_is t.Question (head r)) (within tt deeper.has_room (skip >> read.branches deeper a)) (pure a) n r ≡ Read a n r
      ends [] low n = refl
      ends (x ∷ r) low n = ap (λ d. cond d (within tt deeper.has_room (skip >> read.branches deeper a)) (pure a) n (x ∷ r)) (no_question x.token low)

-- ---- parts that open, by the room that is left

signed_reach : {s r : Tokens} {op : UnaryOp} {a : Tree} (o : Placed) (is : sign o ≡ Some op) (x : Spells (Level zero) s a r) → ((room n : ℕ) → Reach room (Level zero) x n s a r) →
    (room n : ℕ) → Reach room (Level zero) (signed {o = o} is x) n (o ∷ s) (Unary op a) r
unfolding read.unary deeper_of
signed_reach {s = s} {r = r} {op = op} {a = a} o is x h room n low =
    subst (λ i. Meets (verdict (signed {o = o} is x) room n) (Unary op a) r (read.unary_as (deeper_of room) i n (o ∷ s))) (sym is) (by room)
  where
    by : (room : ℕ) → Meets (opens tt room (o ∷ s) (λ room. verdict x room n)) (Unary op a) r (read.unary_as (deeper_of room) (Some op) n (o ∷ s))
    by zero = refl
    by (suc room) = after_meets (verdict x room n) a r (read.unary (deeper_of room) n s) (λ a. pure (Unary op a)) (Unary op a) r (h room n low) (λ n. refl)

parens_reach : {s r : Tokens} {q : Placed} {a : Tree} (p : Placed) (is : Is t.Open p) (x : Spells Whole s a (q ∷ r)) (also : Is t.Close q) → ((room n : ℕ) → Reach room Whole x n s a (q ∷ r)) →
    (room n : ℕ) → Reach room Primary (parens {p = p} is x also) n (p ∷ s) a r
unfolding read.primary deeper_of
parens_reach {s = s} {r = r} {q = q} {a = a} p is x also h room n =
    subst (λ u. Meets (verdict (parens {p = p} is x also) room n) a r (read.primary_as (deeper_of room) u n (p ∷ s))) (sym is) (by room)
  where
    by : (room : ℕ) → Meets (opens tt room (p ∷ s) (λ room. verdict x room n)) a r (read.primary_as (deeper_of room) t.Open n (p ∷ s))
    by zero = refl
    by (suc room) = after_meets (verdict x room n) a (q ∷ r) (read.whole (deeper_of room) n s) (λ a. take tt (the t.Close) >>= λ _. pure a) a r
        (h room n (ends_expression t.Close q (omega arith) also)) (λ n. the_reads t.Close q (pure a) refl also n r)

load_reach : {s r : Tokens} {k y q : Placed} {a : Tree} {v : List ℕ} (w p : Placed) (word : Is word_load w) (is : Is t.Open p) (x : Spells Whole s a (k ∷ y ∷ q ∷ r)) (comma : Is t.Comma k) (quote : quoted y ≡ Some v) (also : Is t.Close q) →
    ((room n : ℕ) → Reach room Whole x n s a (k ∷ y ∷ q ∷ r)) → (room n : ℕ) → Reach room Primary (load {x = w} {p = p} word is x comma quote also) n (w ∷ p ∷ s) (Load a v) r
unfolding read.primary read.load deeper_of
load_reach {s = s} {r = r} {k = k} {y = y} {q = q} {a = a} {v = v} w p word is x comma quote also h room n =
    subst (λ u. Meets (verdict (load {x = w} {p = p} word is x comma quote also) room n) (Load a v) r (read.primary_as (deeper_of room) u n (w ∷ p ∷ s))) (sym word)
    (subst (λ d. Meets (verdict (load {x = w} {p = p} word is x comma quote also) room n) (Load a v) r (cond d (within tt (deeper_of room).has_room (skip >> read.loading (deeper_of room))) (refuse tt) n (p ∷ s))) (sym (test_at t.Open t.Open true p refl is)) (by room))
  where
    by : (room : ℕ) → Meets (opens tt room (p ∷ s) (λ room. verdict x room n)) (Load a v) r (within tt (deeper_of room).has_room (skip >> read.loading (deeper_of room)) n (p ∷ s))
    by zero = refl
    by (suc room) = after_meets (verdict x room n) a (k ∷ y ∷ q ∷ r) (read.whole (deeper_of room) n s) (λ a. take tt (the t.Comma) >>= λ _. take tt quoted >>= λ v. take tt (the t.Close) >>= λ _. pure (Load a v)) (Load a v) r
        (h room n (ends_expression t.Comma k (omega arith) comma))
        (λ n. the_reads t.Comma k (take tt quoted >>= λ v. take tt (the t.Close) >>= λ _. pure (Load a v)) refl comma n (y ∷ q ∷ r)
        ∙ quoted_reads y v (λ v. take tt (the t.Close) >>= λ _. pure (Load a v)) quote n (q ∷ r) ∙ the_reads t.Close q (pure (Load a v)) refl also n r)

choice_reach : {s m l r : Tokens} {p q : Placed} {a b f : Tree} (x : Spells (Level 6) s a (p ∷ m)) (is : Is t.Question p) (y : Spells Whole m b (q ∷ l)) (also : Is t.Colon q) (z : Spells Whole l f r) →
    ((room n : ℕ) → Reach room (Level 6) x n s a (p ∷ m)) → ((room n : ℕ) → Reach room Whole y n m b (q ∷ l)) → ((room n : ℕ) → Reach room Whole z n l f r) →
    (room n : ℕ) → Reach room Whole (choice x is y also z) n s (If a b f) r
unfolding read.whole read.conditional deeper_of
choice_reach {s = s} {m = m} {l = l} {r = r} {p = p} {q = q} {a = a} {b = b} {f = f} x is y also z hx hy hz room n low =
    then_meets (verdict x room n) a (p ∷ m) (read.level (deeper_of room) 6 n s) (read.conditional (deeper_of room))
    (λ n. opens tt room (p ∷ m) (λ room. and_fine (verdict y room n) (λ n. verdict z room n))) (If a b f) r
    (level_read room 6 x n (hx room n) (let e : looseness (Some p) ≡ 7 = ap looseness_as is in omega (arith, e)))
    (λ n. subst (λ d. Meets (opens tt room (p ∷ m) (λ room. and_fine (verdict y room n) (λ n. verdict z room n))) (If a b f) r (cond d (within tt (deeper_of room).has_room (skip >> read.branches (deeper_of room) a)) (pure a) n (p ∷ m)))
    (sym (test_at t.Question t.Question true p refl is)) (by room n))
  where
    by : (room n : ℕ) → Meets (opens tt room (p ∷ m) (λ room. and_fine (verdict y room n) (λ n. verdict z room n))) (If a b f) r (within tt (deeper_of room).has_room (skip >> read.branches (deeper_of room) a) n (p ∷ m))
    by zero n = refl
    by (suc room) n = then_meets (verdict y room n) b (q ∷ l) (read.whole (deeper_of room) n m) (λ b. take tt (the t.Colon) >>= λ _. read.whole (deeper_of room) >>= λ c. pure (If a b c)) (λ n. verdict z room n) (If a b f) r
        (hy room n (ends_expression t.Colon q (omega arith) also))
        (λ n. subst (Meets (verdict z room n) (If a b f) r) (sym (the_reads t.Colon q (read.whole (deeper_of room) >>= λ c. pure (If a b c)) refl also n l))
        (after_meets (verdict z room n) f r (read.whole (deeper_of room) n l) (λ c. pure (If a b c)) (If a b f) r (hz room n low) (λ n. refl)))

-- ---- what an operand begins with is no operator

abbrev Begins : Rule → Tokens → Type 0
Begins Post s = (deeper : Deeper) → read.unary_as deeper (read.sign_at (head s)) ≡ read.post deeper
Begins Primary s = (deeper : Deeper) → read.unary_as deeper (read.sign_at (head s)) ≡ read.post deeper
Begins _ s = Unit {0}

no_sign : (u : Token) (x : Placed) → sign_as u ≡ None → Is u x → (deeper : Deeper) → read.unary_as deeper (sign x) ≡ read.post deeper
no_sign u x e is deeper = ap (λ u. read.unary_as deeper (sign_as u)) is ∙ ap (read.unary_as deeper) e

begins : {rule : Rule} {s r : Tokens} {a : Tree} → Spells rule s a r → Begins rule s
begins (first x) = begins x
begins (point x is also) = begins x
begins (number {x = x} {n = n} is) = no_sign (t.Number n) x refl is
begins (text {x = x} {v = v} is) = no_sign (t.Quoted v) x refl is
begins (yes {x = x} is) = no_sign word_true x refl is
begins (no {x = x} is) = no_sign word_false x refl is
begins (null {x = x} is) = no_sign word_null x refl is
begins (var {x = x} {n = n} is) = no_sign (t.Word n) x refl (variable_is x n is).0
begins (parens {p = p} is x also) = no_sign t.Open p refl is
begins (load {x = x} word is y comma quote also) = no_sign word_load x refl word
begins _ = tt

post_reach : (room : ℕ) {s r : Tokens} {a : Tree} (x : Spells Post s a r) (n : ℕ) → Reach room Post x n s a r → Reach room (Level zero) (post x) n s a r
unfolding read.unary
post_reach room {s = s} {r = r} {a = a} x n h low = subst (λ q. Meets (verdict x room n) a r (q n s)) (sym (begins x (deeper_of room))) (post_read room x n h low)

-- ---- all of it

pub reach : {rule : Rule} {s r : Tokens} {a : Tree} (x : Spells rule s a r) (room n : ℕ) → Reach room rule x n s a r
reach (plain x) room n = plain_reach room x n (reach x room n)
reach (choice x is y also z) room n = choice_reach x is y also z (reach x) (reach y) (reach z) room n
reach (tighter {n = k} x) room n = tighter_reach room k x n (reach x room n)
reach (binary {n = k} x is at y) room n = binary_reach room k x is at y n (reach x room n) (reach y room)
reach (signed {o = o} is x) room n = signed_reach o is x (reach x) room n
reach (post x) room n = post_reach room x n (reach x room n)
reach (first x) room n = first_reach room x n (reach x room n)
reach (point x is also) room n = point_reach room x is also n (reach x room n)
reach (number {r = r} {x = x} {n = v} is) room n = primary_is room x (t.Number v) r (Num v) is (λ n. refl) n
reach (text {r = r} {x = x} {v = v} is) room n = primary_is room x (t.Quoted v) r (Quoted v) is (λ n. refl) n
reach (yes {r = r} {x = x} is) room n = primary_is room x word_true r (Flag true) is (λ n. refl) n
reach (no {r = r} {x = x} is) room n = primary_is room x word_false r (Flag false) is (λ n. refl) n
reach (null {r = r} {x = x} is) room n = primary_is room x word_null r Null is (λ n. refl) n
reach (var {r = r} {x = x} {n = v} is) room n = var_reach room x v r is n
reach (parens {p = p} is x also) room n = parens_reach p is x also (reach x) room n
reach (load {x = w} {p = p} word is x comma quote also) room n = load_reach w p word is x comma quote also (reach x) room n

-- an expression of its own
pub expression_meets : {s r : Tokens} {a : Tree} (x : Spells Whole s a r) → 7 < looseness (head r) → (n : ℕ) → Meets (verdict x most_open 0) a r (read.expression n s)
unfolding read.expression
expression_meets x low n = reach x most_open 0 low

-- names behind points, of a primary that is there
pub post_meets : {s r : Tokens} {a : Tree} (x : Spells Post s a r) → 0 < looseness (head r) → Meets (verdict x most_open 0) a r (read.post (deeper_of most_open) 0 s)
post_meets x low = post_read most_open x 0 (reach x most_open 0) low
