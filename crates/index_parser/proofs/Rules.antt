-- What the loops and rules read, by the next token.
use Rattle.std.proofs.Common.{◌≡◌, ℕ, suc, ◌+◌, ◌-◌, ◌<◌, ◌≤◌, Bool, true, false, cond, List, [], ◌∷◌, ◌++◌, length, Option, Some, None, refl, sym, ◌∙◌, ap, subst, arith}
use Rattle.exact_parse.specs.Steps.{head, tail, TooLarge, Outcome, Read, Refused, and_then, ◌>>=◌, ◌>>◌, pure, refuse, take, take_as, skip, choose, Ends, More, Counts}
use Rattle.exact_parse.proofs.Keeping.{read_shorter}
use Rattle.exact_parse.proofs.Loops.{loop_ends}
use Rattle.index_tokens.specs.declared.token.Token.TheVariants as t
use Rattle.index_tokens.specs.declared.token.Placed.{Placed}
use Rattle.index_tokens.specs.Reads.{Kind, Reads}
use Rattle.index_tokens.specs.Words.{Tokens, same_token, next_is, the, word_where, word_let, name}
use Rattle.index_tokens.proofs.Taking.{at_start}
use Rattle.index_tree.specs.declared.expression.BinaryOp.{BinaryOp}
use Rattle.index_tree.specs.declared.map_query.Clause.{Clause}
use Rattle.index_tree.specs.Trees.{Tree, Binary, Dot}
use Rattle.index_grammar.specs.declared.spelled.PlacedMember.{PlacedMember}
use Rattle.index_grammar.specs.Expressions.{Spells, Level, Post}
use Rattle.index_grammar.specs.Limits.{most_operators}
use Rattle.index_grammar.specs.Maps.{SpellsClause}
use Rattle.index_grammar.specs.ExpressionReading as expr
use Rattle.index_grammar.specs.ExpressionReading.{Deeper, operator_at, operator_then, operator_next, point_next, deeper_of}
use Rattle.index_grammar.specs.MapReading as read
use Rattle.index_grammar.specs.MapReading.{clause_next}
use Rattle.index_grammar.proofs.ExpressionKeeps.{Behind, points_keep, climb_keeps, level_at}
use Rattle.index_grammar.proofs.MapKeeps.{BehindClauses, clauses_keep, filter_keeps, binding_keeps}
use Rattle.index_parser.specs.Parts.{clause_if_any}
use Rattle.index_parser.proofs.Turning.{loop_full, loop_counted, loop_passed}

-- ---- names behind points

pub points_end : (a : Tree) (c : ℕ) (s : Tokens) → next_is t.Point (head s) ≡ false → expr.points a c s ≡ Read a c s
unfolding expr.points
points_end a c s e = loop_ends tt (Behind Post) point_next points_keep a c s (pure a) (ap (λ d. cond d (Counts tt most_operators (take tt name >>= λ n. pure (Dot a n))) (Ends (pure a))) e)

pub points_full : (a : Tree) (c : ℕ) (s : Tokens) → next_is t.Point (head s) ≡ true → 256 ≤ c → expr.points a c s ≡ Refused (TooLarge tt) s
unfolding expr.points
points_full a c s e h = loop_full tt (Behind Post) point_next points_keep a c s tt most_operators (take tt name >>= λ n. pure (Dot a n))
    (ap (λ d. cond d (Counts tt most_operators (take tt name >>= λ n. pure (Dot a n))) (Ends (pure a))) e) h

pub points_on : (a : Tree) (c : ℕ) (s : Tokens) → next_is t.Point (head s) ≡ true → c < 256 → expr.points a c s ≡ and_then (take tt name (c + 1) (tail s)) (λ n. expr.points (Dot a n))
unfolding expr.points
points_on a c s e h = loop_counted tt (Behind Post) point_next points_keep a c s tt most_operators (take tt name >>= λ n. pure (Dot a n))
    (ap (λ d. cond d (Counts tt most_operators (take tt name >>= λ n. pure (Dot a n))) (Ends (pure a))) e) h
    ∙ again (take tt name (c + 1) (tail s))
  where
    again : (o : Outcome Placed Kind (List ℕ)) → and_then (and_then o (λ n. pure (Dot a n))) expr.points ≡ and_then o (λ n. expr.points (Dot a n))
    again (Read n c s) = refl
    again (Refused k s) = refl

-- ---- the operators of a level

module _ (room m level : ℕ) (is : level ≡ suc m) (a : Tree) (c : ℕ) (s : Tokens) where
  pub climb_end : operator_at level (head s) ≡ None → expr.climb (expr.level (deeper_of room) m) level a c s ≡ Read a c s
  unfolding expr.climb
  climb_end = subst (λ level. operator_at level (head s) ≡ None → expr.climb (expr.level (deeper_of room) m) level a c s ≡ Read a c s) (sym is) at
    where
      at : operator_at (suc m) (head s) ≡ None → expr.climb (expr.level (deeper_of room) m) (suc m) a c s ≡ Read a c s
      at e = loop_ends tt (Behind (Level (suc m))) (operator_next (expr.level (deeper_of room) m) (suc m)) (climb_keeps m (expr.level (deeper_of room) m) (level_at room m)) a c s (pure a)
          (ap (operator_then (expr.level (deeper_of room) m) a) e)

  pub climb_full : (op : BinaryOp) → operator_at level (head s) ≡ Some op → 256 ≤ c → expr.climb (expr.level (deeper_of room) m) level a c s ≡ Refused (TooLarge tt) s
  unfolding expr.climb
  climb_full op = subst (λ level. operator_at level (head s) ≡ Some op → 256 ≤ c → expr.climb (expr.level (deeper_of room) m) level a c s ≡ Refused (TooLarge tt) s) (sym is) at
    where
      at : operator_at (suc m) (head s) ≡ Some op → 256 ≤ c → expr.climb (expr.level (deeper_of room) m) (suc m) a c s ≡ Refused (TooLarge tt) s
      at e h = loop_full tt (Behind (Level (suc m))) (operator_next (expr.level (deeper_of room) m) (suc m)) (climb_keeps m (expr.level (deeper_of room) m) (level_at room m)) a c s tt most_operators
          (expr.level (deeper_of room) m >>= λ b. pure (Binary op a b)) (ap (operator_then (expr.level (deeper_of room) m) a) e) h

  pub climb_on : (op : BinaryOp) → operator_at level (head s) ≡ Some op → c < 256 →
      expr.climb (expr.level (deeper_of room) m) level a c s ≡ and_then (expr.level (deeper_of room) m (c + 1) (tail s)) (λ b. expr.climb (expr.level (deeper_of room) m) level (Binary op a b))
  unfolding expr.climb
  climb_on op = subst (λ level. operator_at level (head s) ≡ Some op → c < 256 →
      expr.climb (expr.level (deeper_of room) m) level a c s ≡ and_then (expr.level (deeper_of room) m (c + 1) (tail s)) (λ b. expr.climb (expr.level (deeper_of room) m) level (Binary op a b))) (sym is) at
    where
      again : (o : Outcome Placed Kind Tree) → and_then (and_then o (λ b. pure (Binary op a b))) (expr.climb (expr.level (deeper_of room) m) (suc m)) ≡ and_then o (λ b. expr.climb (expr.level (deeper_of room) m) (suc m) (Binary op a b))
      again (Read b c s) = refl
      again (Refused k s) = refl

      at : operator_at (suc m) (head s) ≡ Some op → c < 256 →
          expr.climb (expr.level (deeper_of room) m) (suc m) a c s ≡ and_then (expr.level (deeper_of room) m (c + 1) (tail s)) (λ b. expr.climb (expr.level (deeper_of room) m) (suc m) (Binary op a b))
      at e h = loop_counted tt (Behind (Level (suc m))) (operator_next (expr.level (deeper_of room) m) (suc m)) (climb_keeps m (expr.level (deeper_of room) m) (level_at room m)) a c s tt most_operators
          (expr.level (deeper_of room) m >>= λ b. pure (Binary op a b)) (ap (operator_then (expr.level (deeper_of room) m) a) e) h ∙ again (expr.level (deeper_of room) m (c + 1) (tail s))

-- ---- levels, and what is nested

pub level_zero : (deeper : Deeper) (n : ℕ) → n ≡ 0 → expr.level deeper n ≡ expr.unary deeper
unfolding expr.level
level_zero deeper n e = ap (λ n. expr.level deeper n) e

pub level_on : (deeper : Deeper) (n c : ℕ) (s : Tokens) → 0 < n → expr.level deeper n c s ≡ and_then (expr.level deeper (n - 1) c s) (expr.climb (expr.level deeper (n - 1)) n)
unfolding expr.level
level_on deeper n c s h = let e : n ≡ suc (n - 1) = omega arith in
    ap (λ n. expr.level deeper n c s) e ∙ ap (λ k. and_then (expr.level deeper (n - 1) c s) (expr.climb (expr.level deeper (n - 1)) k)) (sym e)

pub deeper_on : (room : ℕ) → 0 < room → deeper_of room ≡ record { has_room = true; whole = expr.whole (deeper_of (room - 1)); unary = expr.unary (deeper_of (room - 1)) }
unfolding deeper_of
deeper_on room h = let e : room ≡ suc (room - 1) = omega arith in ap deeper_of e

pub deeper_none : (room : ℕ) → room ≡ 0 → deeper_of room ≡ record { has_room = false; whole = refuse tt; unary = refuse tt }
unfolding deeper_of
deeper_none room e = ap deeper_of e

-- ---- clauses

module _ (found : List Clause) (c : ℕ) (s : Tokens) where
  pub clauses_end : next_is word_where (head s) ≡ false → next_is word_let (head s) ≡ false → read.clauses found c s ≡ Read found c s
  unfolding read.clauses
  clauses_end e f = loop_ends tt BehindClauses clause_next clauses_keep found c s (pure found)
      (ap (λ d. cond d (More (read.filter >>= λ a. pure (found ++ a ∷ []))) (cond (next_is word_let (head s)) (More (read.binding >>= λ a. pure (found ++ a ∷ []))) (Ends (pure found)))) e
      ∙ ap (λ d. cond d (More (read.binding >>= λ a. pure (found ++ a ∷ []))) (Ends (pure found))) f)

  again : (o : Outcome Placed Kind Clause) → and_then (and_then o (λ a. pure (found ++ a ∷ []))) read.clauses ≡ and_then o (λ a. read.clauses (found ++ a ∷ []))
  again (Read a c s) = refl
  again (Refused k s) = refl

  pub clauses_where : next_is word_where (head s) ≡ true → read.clauses found c s ≡ and_then (read.filter c (tail s)) (λ a. read.clauses (found ++ a ∷ []))
  unfolding read.clauses
  clauses_where e = loop_passed tt BehindClauses clause_next clauses_keep found c s (read.filter >>= λ a. pure (found ++ a ∷ []))
      (ap (λ d. cond d (More (read.filter >>= λ a. pure (found ++ a ∷ []))) (cond (next_is word_let (head s)) (More (read.binding >>= λ a. pure (found ++ a ∷ []))) (Ends (pure found)))) e)
      ∙ again (read.filter c (tail s))

  pub clauses_let : next_is word_where (head s) ≡ false → next_is word_let (head s) ≡ true → read.clauses found c s ≡ and_then (read.binding c (tail s)) (λ a. read.clauses (found ++ a ∷ []))
  unfolding read.clauses
  clauses_let e f = loop_passed tt BehindClauses clause_next clauses_keep found c s (read.binding >>= λ a. pure (found ++ a ∷ []))
      (ap (λ d. cond d (More (read.filter >>= λ a. pure (found ++ a ∷ []))) (cond (next_is word_let (head s)) (More (read.binding >>= λ a. pure (found ++ a ∷ []))) (Ends (pure found)))) e
      ∙ ap (λ d. cond d (More (read.binding >>= λ a. pure (found ++ a ∷ []))) (Ends (pure found))) f)
      ∙ again (read.binding c (tail s))

abbrev pub clause_then : List Clause → Option Clause → Reads (List Clause)
clause_then found (Some a) = read.clauses (found ++ a ∷ [])
clause_then found None = pure found

pub clauses_turn : (found : List Clause) (c : ℕ) (s : Tokens) → read.clauses found c s ≡ and_then (clause_if_any c s) (clause_then found)
clauses_turn found c s = by (next_is word_where (head s)) refl (next_is word_let (head s)) refl
  where
    some : (o : Outcome Placed Kind Clause) → and_then o (λ a. read.clauses (found ++ a ∷ [])) ≡ and_then (and_then o (λ a. pure (Some a))) (clause_then found)
    some (Read a c s) = refl
    some (Refused k s) = refl

    by : (d : Bool) → next_is word_where (head s) ≡ d → (f : Bool) → next_is word_let (head s) ≡ f →
        read.clauses found c s ≡ and_then (cond d (skip >> (read.filter >>= λ a. pure (Some a))) (cond f (skip >> (read.binding >>= λ a. pure (Some a))) (pure None)) c s) (clause_then found)
    by true e f h = clauses_where found c s e ∙ some (read.filter c (tail s))
    by false e true h = clauses_let found c s e h ∙ some (read.binding c (tail s))
    by false e false h = clauses_end found c s e h

-- ---- members

-- what follows the comma of a member
abbrev pub behind_comma : (List PlacedMember → Reads (List PlacedMember)) → List PlacedMember → Reads (List PlacedMember)
behind_comma next found = choose (λ h. cond (next_is t.CloseBrace h) (skip >> pure found) (next found))

behind_on : (next : List PlacedMember → Reads (List PlacedMember)) (found : List PlacedMember) (c : ℕ) (s : Tokens) → next_is t.CloseBrace (head s) ≡ false →
    choose (read.behind_member next found) c s ≡ and_then (take tt (the t.Comma) c s) (λ _. behind_comma next found)
behind_on next found c [] e = refl
behind_on next found c (x ∷ s) e = ap (λ d. cond d (skip >> pure found) (cond (next_is t.Comma (Some x)) (skip >> behind_comma next found) (refuse tt)) c (x ∷ s)) e ∙ by (same_token t.Comma x.token)
  where
    by : (d : Bool) → cond d (skip >> behind_comma next found) (refuse tt) c (x ∷ s) ≡ and_then (take_as {K = Kind} tt (cond d (Some (tt {0})) None) c (x ∷ s)) (λ _. behind_comma next found)
    by true = refl
    by false = refl

module _ (k k' : ℕ) (is : k ≡ suc k') (found : List PlacedMember) (c : ℕ) (s : Tokens) where
  pub members_on : read.members k found c s ≡ and_then (read.member c s) (λ a. choose (read.behind_member (read.members k') (found ++ a ∷ [])))
  unfolding read.members
  members_on = ap (λ k. read.members k found c s) is

  module _ (a : PlacedMember) (n : ℕ) (m : Tokens) (reads : read.member c s ≡ Read a n m) where
    behind : read.members k found c s ≡ choose (read.behind_member (read.members k') (found ++ a ∷ [])) n m
    behind = members_on ∙ ap (λ o. and_then o (λ a. choose (read.behind_member (read.members k') (found ++ a ∷ [])))) reads

    pub members_close : next_is t.CloseBrace (head m) ≡ true → read.members k found c s ≡ Read (found ++ a ∷ []) n (tail m)
    members_close e = behind ∙ ap (λ d. cond d (skip >> pure (found ++ a ∷ [])) (cond (next_is t.Comma (head m)) (skip >> behind_comma (read.members k') (found ++ a ∷ [])) (refuse tt)) n m) e

    pub members_comma : next_is t.CloseBrace (head m) ≡ false → read.members k found c s ≡ and_then (take tt (the t.Comma) n m) (λ _. behind_comma (read.members k') (found ++ a ∷ []))
    members_comma e = behind ∙ behind_on (read.members k') (found ++ a ∷ []) n m e

    module _ (i : ℕ) (r : Tokens) (e : next_is t.CloseBrace (head m) ≡ false) (comma : ◌≡◌ {A = Outcome Placed Kind (Unit {0})} (take tt (the t.Comma) n m) (Read tt i r)) where
      pub members_comma_close : next_is t.CloseBrace (head r) ≡ true → read.members k found c s ≡ Read (found ++ a ∷ []) i (tail r)
      members_comma_close f = members_comma e ∙ ap (λ o. and_then o (λ _. behind_comma (read.members k') (found ++ a ∷ []))) comma
          ∙ ap (λ d. cond d (skip >> pure (found ++ a ∷ [])) (read.members k' (found ++ a ∷ [])) i r) f

      pub members_more : next_is t.CloseBrace (head r) ≡ false → read.members k found c s ≡ read.members k' (found ++ a ∷ []) i r
      members_more f = members_comma e ∙ ap (λ o. and_then o (λ _. behind_comma (read.members k') (found ++ a ∷ []))) comma
          ∙ ap (λ d. cond d (skip >> pure (found ++ a ∷ [])) (read.members k' (found ++ a ∷ [])) i r) f

pub members_none : (k : ℕ) (found : List PlacedMember) (c : ℕ) (s : Tokens) → k ≡ 0 → read.members k found c s ≡ read.no_room_by (head s) c s
unfolding read.members
members_none k found c s e = ap (λ k. read.members k found c s) e

-- ---- what is left gets shorter

pub operator_shorter : (n : ℕ) (s : Tokens) (op : BinaryOp) → operator_at n (head s) ≡ Some op → length (tail s) < length s
operator_shorter n [] op e = cc
operator_shorter n (x ∷ s) op e = omega arith

pub level_shorter : (room m c : ℕ) (s : Tokens) (a : Tree) (c' : ℕ) (s' : Tokens) → expr.level (deeper_of room) m c s ≡ Read a c' s' → length s' ≤ length s
level_shorter room m = read_shorter (Spells (Level m)) (expr.level (deeper_of room) m) (level_at room m)

pub filter_shorter : (c : ℕ) (s : Tokens) (a : Clause) (c' : ℕ) (s' : Tokens) → read.filter c s ≡ Read a c' s' → length s' ≤ length s
filter_shorter = read_shorter (λ m b r. SpellsClause (at_start word_where ∷ m) b r) read.filter (filter_keeps (at_start word_where) refl)

pub binding_shorter : (c : ℕ) (s : Tokens) (a : Clause) (c' : ℕ) (s' : Tokens) → read.binding c s ≡ Read a c' s' → length s' ≤ length s
binding_shorter = read_shorter (λ m b r. SpellsClause (at_start word_let ∷ m) b r) read.binding (binding_keeps (at_start word_let) refl)

pub clause_shorter : (c : ℕ) (s : Tokens) (a : Clause) (c' : ℕ) (s' : Tokens) → clause_if_any c s ≡ Read (Some a) c' s' → length s' < length s
clause_shorter c [] a c' s' e = let bad : ◌≡◌ {A = Outcome Placed Kind (Option Clause)} (Read None c []) (Read (Some a) c' s') = e in cc
clause_shorter c (x ∷ s) a c' s' e = by (same_token word_where x.token) (same_token word_let x.token) e
  where
    some : (o : Outcome Placed Kind Clause) → ((b : Clause) (n : ℕ) (m : Tokens) → o ≡ Read b n m → length m ≤ length s) →
        and_then o (λ b. pure (Some b)) ≡ Read (Some a) c' s' → length s' < length (x ∷ s)
    some (Read b n m) shorter e = let same : m ≡ s' = cc in let h = shorter b n m refl in omega (arith, h, ap length same)
    some (Refused k m) shorter e = let bad : ◌≡◌ {A = Outcome Placed Kind (Option Clause)} (Refused k m) (Read (Some a) c' s') = e in cc

    by : (d f : Bool) → cond d (skip >> (read.filter >>= λ a. pure (Some a))) (cond f (skip >> (read.binding >>= λ a. pure (Some a))) (pure None)) c (x ∷ s) ≡ Read (Some a) c' s' → length s' < length (x ∷ s)
    by true f e = some (read.filter c s) (filter_shorter c s) e
    by false true e = some (read.binding c s) (binding_shorter c s) e
    by false false e = let bad : ◌≡◌ {A = Outcome Placed Kind (Option Clause)} (Read None c (x ∷ s)) (Read (Some a) c' s') = e in cc
