-- The reading of conditions.
use Rattle.std.specs.Prelude.{ℕ, zero, suc, Bool, true, false, if◌then◌else◌, Option, Some, None}
use Rattle.exact_parse.specs.Steps.{◌>>=◌, ◌>>◌, pure, refuse, choose, skip, within, take}
use Rattle.spec_query.specs.Query.{Field, CompareOp, Cond}
use Rattle.rql_tokens.specs.declared.key_words.KeyWord.TheVariants as k
use Rattle.rql_tokens.specs.declared.key_words.Function.{Function}
use Rattle.rql_tokens.specs.declared.key_words.Function.TheVariants as f
use Rattle.rql_tokens.specs.declared.token.Token.{Token}
use Rattle.rql_tokens.specs.declared.token.Token.TheVariants as t
use Rattle.rql_tokens.specs.declared.token.Placed.{Placed}
use Rattle.rql_tokens.specs.Words.{next_is, the, function}
use Rattle.rql_grammar.specs.Reads.{Reads, unexpected, large}
use Rattle.rql_grammar.specs.Conditions.{operator}
use Rattle.rql_grammar.specs.Limits.{most_open}
use Rattle.rql_grammar.specs.FieldReading.{chain, list, field, value}

-- what may be nested one deeper
pub record Deeper : Type 0 where
  pub has_room : Bool
  pub whole : Reads Cond
  pub negation : Reads Cond

-- ---- calls, behind their words

abbrev pub starting : Reads Cond
starting = take unexpected (the t.Open) >>= λ _. field >>= λ a. take unexpected (the t.Comma) >>= λ _. value >>= λ v. take unexpected (the t.Close) >>= λ _. pure (Cond.Starts a v)

abbrev pub existing : Reads Cond
existing = take unexpected (the t.Open) >>= λ _. field >>= λ a. take unexpected (the t.Close) >>= λ _. pure (Cond.Exists a)

-- ---- comparisons, behind their fields and signs

abbrev pub compared : Field → CompareOp → Reads Cond
compared a op = value >>= λ v. pure (Cond.Compare a op v)

abbrev pub ranged : Field → Reads Cond
ranged a = value >>= λ v. take unexpected (the (t.Key k.And)) >>= λ _. value >>= λ w. pure (Cond.Between a v w)

abbrev pub listed : Field → Reads Cond
listed a = take unexpected (the t.Open) >>= λ _. list t.Comma value >>= λ vs. take unexpected (the t.Close) >>= λ _. pure (Cond.In a vs)

abbrev pub operator_at : Option Placed → Option CompareOp
operator_at (Some x) = operator x
operator_at None = None

abbrev pub behind_by : Field → Option CompareOp → Option Placed → Reads Cond
behind_by a (Some op) h = skip >> compared a op
behind_by a None h = if next_is (t.Key k.Between) h then (skip >> ranged a) else (take unexpected (the (t.Key k.In)) >>= λ _. listed a)

-- behind the field of a test
unfoldable pub behind_field : Field → Reads Cond
behind_field a = choose (λ h. behind_by a (operator_at h) h)

unfoldable pub comparison : Reads Cond
comparison = field >>= behind_field

-- ---- the rules

module _ (deeper : Deeper) where
  -- behind a parenthesis
  abbrev pub closing : Reads Cond
  closing = deeper.whole >>= λ a. take unexpected (the t.Close) >>= λ _. pure a

  abbrev pub parentheses : Reads Cond
  parentheses = within large deeper.has_room (skip >> closing)

  -- behind `exact`
  abbrev pub exactly : Reads Cond
  exactly = take unexpected (the t.Open) >>= λ _. deeper.whole >>= λ a. take unexpected (the t.Close) >>= λ _. pure (Cond.Exact a)

  abbrev pub exact_test : Reads Cond
  exact_test = within large deeper.has_room (skip >> exactly)

  -- a test that is no call
  abbrev pub plain_test : Option Placed → Reads Cond
  plain_test h =
      if next_is t.Open h then parentheses else (
      if next_is (t.Key k.Exact) h then exact_test else (
      if next_is (t.Key k.True) h then (skip >> pure Cond.True) else comparison))

  abbrev pub test_by : Option Function → Option Placed → Reads Cond
  test_by (Some f.StartsWith) h = skip >> starting
  test_by (Some f.Exists) h = skip >> existing
  test_by _ h = plain_test h

  abbrev pub test_at : Option Placed → Reads Cond
  test_at (Some x) = test_by (function x) (Some x)
  test_at None = refuse unexpected

  unfoldable pub one_test : Reads Cond
  one_test = choose test_at

  unfoldable pub negation : Reads Cond
  negation = choose (λ h. if next_is (t.Key k.Not) h then within large deeper.has_room (skip >> (deeper.negation >>= λ a. pure (Cond.Not a))) else one_test)

  unfoldable pub conjunction : Reads Cond
  conjunction = negation >>= chain (t.Key k.And) negation Cond.And

  unfoldable pub whole : Reads Cond
  whole = conjunction >>= chain (t.Key k.Or) conjunction Cond.Or

-- what may be nested, with so much room
unfoldable pub deeper_of : ℕ → Deeper
deeper_of zero = record { has_room = false; whole = refuse unexpected; negation = refuse unexpected }
deeper_of (suc room) = record { has_room = true; whole = whole (deeper_of room); negation = negation (deeper_of room) }

unfoldable pub condition : Reads Cond
condition = whole (deeper_of most_open)
