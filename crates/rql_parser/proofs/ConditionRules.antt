-- What the rules of conditions read, by the next token.
use Rattle.std.proofs.Common.{◌≡◌, ℕ, suc, ◌-◌, ◌<◌, ◌≤◌, Bool, true, false, cond, [], ◌∷◌, length, Option, Some, None, refl, ◌∙◌, ap, arith}
use Rattle.exact_parse.specs.Steps.{head, tail, Read, and_then, ◌>>=◌, ◌>>◌, refuse, skip, take}
use Rattle.exact_parse.proofs.Keeping.{read_shorter}
use Rattle.spec_query.specs.Query.{Field, CompareOp, Cond}
use Rattle.rql_tokens.specs.declared.key_words.KeyWord.TheVariants as k
use Rattle.rql_tokens.specs.declared.token.Token.TheVariants as t
use Rattle.rql_tokens.specs.Words.{Tokens, next_is, the}
use Rattle.rql_grammar.specs.Reads.{unexpected}
use Rattle.rql_grammar.specs.Conditions.{Spells, Whole, Conj, Neg}
use Rattle.rql_grammar.specs.FieldReading.{chain, counting, field, function_at}
use Rattle.rql_grammar.specs.ConditionReading as read
use Rattle.rql_grammar.specs.ConditionReading.{Deeper, deeper_of}
use Rattle.rql_grammar.proofs.Chains.{chain_end, chain_on}
use Rattle.rql_grammar.proofs.ConditionKeeps.{and_step, or_step, negation_at, conjunction_at}

-- ---- comparisons

pub behind_sign : (a : Field) (op : CompareOp) (c : ℕ) (s : Tokens) → read.operator_at (head s) ≡ Some op → read.behind_field a c s ≡ read.compared a op c (tail s)
unfolding read.behind_field
behind_sign a op c s e = ap (λ o. read.behind_by a o (head s) c s) e

by_word : (a : Field) (c : ℕ) (s : Tokens) (d : Bool) → read.operator_at (head s) ≡ None → next_is (t.Key k.Between) (head s) ≡ d →
    read.behind_field a c s ≡ cond d (skip >> read.ranged a) (take unexpected (the (t.Key k.In)) >>= λ _. read.listed a) c s
unfolding read.behind_field
by_word a c s d e f = ap (λ o. read.behind_by a o (head s) c s) e ∙ ap (λ d. cond d (skip >> read.ranged a) (take unexpected (the (t.Key k.In)) >>= λ _. read.listed a) c s) f

pub behind_between : (a : Field) (c : ℕ) (s : Tokens) → read.operator_at (head s) ≡ None → next_is (t.Key k.Between) (head s) ≡ true → read.behind_field a c s ≡ read.ranged a c (tail s)
behind_between a c s e f = by_word a c s true e f

pub behind_in : (a : Field) (c : ℕ) (s : Tokens) → read.operator_at (head s) ≡ None → next_is (t.Key k.Between) (head s) ≡ false →
    read.behind_field a c s ≡ and_then (take unexpected (the (t.Key k.In)) c s) (λ _. read.listed a)
behind_in a c s e f = by_word a c s false e f

pub ruleset behind = (behind_sign, behind_between, behind_in)

-- ---- tests

pub test_is : (deeper : Deeper) (c : ℕ) (s : Tokens) → read.one_test deeper c s ≡ read.test_by deeper (function_at (head s)) (head s) c s
unfolding read.one_test read.comparison field counting
test_is deeper c [] = refl
test_is deeper c (x ∷ s) = refl

pub ruleset tests = (test_is)

-- ---- what is nested

pub deeper_on : (room : ℕ) → 0 < room → deeper_of room ≡ record { has_room = true; whole = read.whole (deeper_of (room - 1)); negation = read.negation (deeper_of (room - 1)) }
unfolding deeper_of
deeper_on room h = let e : room ≡ suc (room - 1) = omega arith in ap deeper_of e

pub deeper_none : (room : ℕ) → room ≡ 0 → deeper_of room ≡ record { has_room = false; whole = refuse unexpected; negation = refuse unexpected }
unfolding deeper_of
deeper_none room e = ap deeper_of e

-- ---- chains of `and` and `or`

pub conjunction_is : (deeper : Deeper) (c : ℕ) (s : Tokens) → read.conjunction deeper c s ≡ and_then (read.negation deeper c s) (chain (t.Key k.And) (read.negation deeper) Cond.And)
unfolding read.conjunction
conjunction_is deeper c s = refl

pub whole_is : (deeper : Deeper) (c : ℕ) (s : Tokens) → read.whole deeper c s ≡ and_then (read.conjunction deeper c s) (chain (t.Key k.Or) (read.conjunction deeper) Cond.Or)
unfolding read.whole
whole_is deeper c s = refl

module _ (room : ℕ) where
  pub and_end : (a : Cond) (c : ℕ) (s : Tokens) → next_is (t.Key k.And) (head s) ≡ false → chain (t.Key k.And) (read.negation (deeper_of room)) Cond.And a c s ≡ Read a c s
  and_end = chain_end (Spells Conj) (Spells Neg) (t.Key k.And) (read.negation (deeper_of room)) Cond.And (negation_at room) and_step

  pub and_on : (a : Cond) (c : ℕ) (s : Tokens) → next_is (t.Key k.And) (head s) ≡ true →
      chain (t.Key k.And) (read.negation (deeper_of room)) Cond.And a c s ≡ and_then (read.negation (deeper_of room) c (tail s)) (λ b. chain (t.Key k.And) (read.negation (deeper_of room)) Cond.And (Cond.And a b))
  and_on = chain_on (Spells Conj) (Spells Neg) (t.Key k.And) (read.negation (deeper_of room)) Cond.And (negation_at room) and_step

  pub or_end : (a : Cond) (c : ℕ) (s : Tokens) → next_is (t.Key k.Or) (head s) ≡ false → chain (t.Key k.Or) (read.conjunction (deeper_of room)) Cond.Or a c s ≡ Read a c s
  or_end = chain_end (Spells Whole) (Spells Conj) (t.Key k.Or) (read.conjunction (deeper_of room)) Cond.Or (conjunction_at room) or_step

  pub or_on : (a : Cond) (c : ℕ) (s : Tokens) → next_is (t.Key k.Or) (head s) ≡ true →
      chain (t.Key k.Or) (read.conjunction (deeper_of room)) Cond.Or a c s ≡ and_then (read.conjunction (deeper_of room) c (tail s)) (λ b. chain (t.Key k.Or) (read.conjunction (deeper_of room)) Cond.Or (Cond.Or a b))
  or_on = chain_on (Spells Whole) (Spells Conj) (t.Key k.Or) (read.conjunction (deeper_of room)) Cond.Or (conjunction_at room) or_step

  pub negation_shorter : (c : ℕ) (s : Tokens) (a : Cond) (n : ℕ) (m : Tokens) → read.negation (deeper_of room) c s ≡ Read a n m → length m ≤ length s
  negation_shorter = read_shorter (Spells Neg) (read.negation (deeper_of room)) (negation_at room)

  pub conjunction_shorter : (c : ℕ) (s : Tokens) (a : Cond) (n : ℕ) (m : Tokens) → read.conjunction (deeper_of room) c s ≡ Read a n m → length m ≤ length s
  conjunction_shorter = read_shorter (Spells Conj) (read.conjunction (deeper_of room)) (conjunction_at room)
