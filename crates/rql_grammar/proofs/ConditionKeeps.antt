-- The reading of conditions keeps to the grammar.
use Rattle.std.proofs.Common.{◌≡◌, ℕ, zero, suc, List, [], ◌∷◌, length, ◌<◌, Bool, true, false, cond, Option, Some, None, refl, ap, arith}
use Rattle.exact_parse.specs.Steps.{◌>>=◌, pure, take, skip, within}
use Rattle.exact_parse.specs.Keeps.{Goes, Fits, Keeps, Then}
use Rattle.exact_parse.proofs.Keeping.{pure_keeps, refuse_at, refuse_keeps, choose_keeps, skip_at, skip_short, within_at, bind_keeps, map_keeps}
use Rattle.spec_query.specs.Query.{Field, Operand, CompareOp, Cond}
use Rattle.rql_tokens.specs.declared.key_words.KeyWord.TheVariants as k
use Rattle.rql_tokens.specs.declared.key_words.Function.{Function}
use Rattle.rql_tokens.specs.declared.key_words.Function.TheVariants as f
use Rattle.rql_tokens.specs.declared.token.Token.{Token}
use Rattle.rql_tokens.specs.declared.token.Token.TheVariants as t
use Rattle.rql_tokens.specs.declared.token.Placed.{Placed}
use Rattle.rql_tokens.specs.Words.{Tokens, Is, same_token, next_is, the, function}
use Rattle.rql_tokens.proofs.WordLemmas.{same_at}
use Rattle.rql_grammar.specs.Reads.{Reads, unexpected, large}
use Rattle.rql_grammar.specs.Fields.{SpellsField, SpellsValue, written, parameter}
use Rattle.rql_grammar.specs.Conditions.{operator, tests, SpellsTested, tested, Rule, Whole, Conj, Neg, Test, Spells, conj, either, neg, both, denied, test, parens, exact, always, starts, exists, compare, between, among}
use Rattle.rql_grammar.specs.FieldReading.{chain, value}
use Rattle.rql_grammar.specs.Limits.{most_open}
use Rattle.rql_grammar.specs.ConditionReading as read
use Rattle.rql_grammar.specs.ConditionReading.{Deeper, deeper_of}
use Rattle.rql_grammar.proofs.Taking.{at_start, the_keeps, either_at}
use Rattle.rql_grammar.proofs.Heads.{head_fits}
use Rattle.rql_grammar.proofs.Chains.{chain_keeps, list_keeps, list_passes}
use Rattle.rql_grammar.proofs.FieldKeeps.{field_passes, field_keeps, value_keeps}

-- ---- each takes a token

value_passes : (s r : Tokens) (v : Operand) → SpellsValue s v r → length r < length s
value_passes s r v (written is) = omega arith
value_passes s r v (parameter is called) = omega arith

tested_passes : {s r : Tokens} {a : Field} → SpellsTested s a r → length r < length s
tested_passes (tested {s = s} {r = r} {x = x} {a = a} free d) = field_passes (x ∷ s) r a d

pub passes : {rule : Rule} {s r : Tokens} {a : Cond} → Spells rule s a r → length r < length s
passes (conj x) = passes x
passes (either x is y) = let before = passes x in let last = passes y in omega (arith, before, last)
passes (neg x) = passes x
passes (both x is y) = let before = passes x in let last = passes y in omega (arith, before, last)
passes (denied is x) = let inside = passes x in omega (arith, inside)
passes (test x) = passes x
passes (parens is x also) = let inside = passes x in omega (arith, inside)
passes (exact word is x also) = let inside = passes x in omega (arith, inside)
passes (always is) = omega arith
passes (starts {s = s} {m = m} {r = r} {c = c} {q = q} {a = a} {v = v} word is d comma w also) =
    let before = field_passes s (c ∷ m) a d in let last = value_passes m (q ∷ r) v w in omega (arith, before, last)
passes (exists {s = s} {r = r} {q = q} {a = a} word is d also) = let before = field_passes s (q ∷ r) a d in omega (arith, before)
passes (compare {m = m} {r = r} {v = v} d is w) = let before = tested_passes d in let last = value_passes m r v w in omega (arith, before, last)
passes (between {m = m} {n = n} {r = r} {c = c} {v = v} {w = w} d is x word y) =
    let before = tested_passes d in let low = value_passes m (c ∷ n) v x in let high = value_passes n r w y in omega (arith, before, low, high)
passes (among {m = m} {r = r} {q = q} d is opening vs also) =
    let before = tested_passes d in let last = list_passes value_passes vs in omega (arith, before, last)

-- ---- calls

starting_keeps : (x : Placed) → function x ≡ Some f.StartsWith → Keeps (λ m b r. Spells Test (x ∷ m) b r) read.starting
starting_keeps x word = the_keeps t.Open refl (λ p is. bind_keeps
    (λ a. take unexpected (the t.Comma) >>= λ _. value >>= λ v. take unexpected (the t.Close) >>= λ _. pure (Cond.Starts a v)) field_keeps
    (λ a. the_keeps t.Comma refl (λ c comma. bind_keeps (λ v. take unexpected (the t.Close) >>= λ _. pure (Cond.Starts a v)) value_keeps
    (λ v. the_keeps t.Close refl (λ q also. pure_keeps (λ z n w s d. starts word is d comma w also))))))

existing_keeps : (x : Placed) → function x ≡ Some f.Exists → Keeps (λ m b r. Spells Test (x ∷ m) b r) read.existing
existing_keeps x word = the_keeps t.Open refl (λ p is. bind_keeps (λ a. take unexpected (the t.Close) >>= λ _. pure (Cond.Exists a)) field_keeps
    (λ a. the_keeps t.Close refl (λ q also. pure_keeps (λ z s d. exists word is d also))))

-- ---- comparisons

-- what goes on behind a field at the start of a test
abbrev BehindField : Field → Tokens → Cond → Tokens → Type 0
BehindField = Then SpellsTested (Spells Test)

compared_keeps : (a : Field) (op : CompareOp) (o : Placed) → operator o ≡ Some op → Keeps (λ m b r. BehindField a (o ∷ m) b r) (read.compared a op)
compared_keeps a op o is = bind_keeps (λ v. pure (Cond.Compare a op v)) value_keeps (λ v. pure_keeps (λ z m w s d. compare d is w))

ranged_keeps : (a : Field) (o : Placed) → Is (t.Key k.Between) o → Keeps (λ m b r. BehindField a (o ∷ m) b r) (read.ranged a)
ranged_keeps a o is = bind_keeps (λ v. take unexpected (the (t.Key k.And)) >>= λ _. value >>= λ w. pure (Cond.Between a v w)) value_keeps
    (λ v. the_keeps (t.Key k.And) refl (λ c word. bind_keeps (λ w. pure (Cond.Between a v w)) value_keeps (λ w. pure_keeps (λ z n y m x s d. between d is x word y))))

listed_keeps : (a : Field) (o : Placed) → Is (t.Key k.In) o → Keeps (λ m b r. BehindField a (o ∷ m) b r) (read.listed a)
listed_keeps a o is = the_keeps t.Open refl (λ p opening. bind_keeps (λ vs. take unexpected (the t.Close) >>= λ _. pure (Cond.In a vs)) (list_keeps SpellsValue t.Comma value value_keeps)
    (λ vs. the_keeps t.Close refl (λ q also. pure_keeps (λ z m ws s d. among d is opening ws also))))

behind_short : (a : Field) → Goes (BehindField a) []
behind_short a = skip_short (BehindField a) (read.compared a CompareOp.Is) (at_start t.Equal) (compared_keeps a CompareOp.Is (at_start t.Equal) refl)

behind_keeps : (a : Field) → Keeps (BehindField a) (read.behind_field a)
unfolding read.behind_field
behind_keeps a = choose_keeps (BehindField a) (λ h. read.behind_by a (read.operator_at h) h) (behind_short a) (λ c. in_keeps.fits c []) (λ o c s. by o (operator o) refl c s)
  where
    in_keeps : Keeps (BehindField a) (take unexpected (the (t.Key k.In)) >>= λ _. read.listed a)
    in_keeps = the_keeps (t.Key k.In) refl (λ o is. listed_keeps a o is)

    by : (o : Placed) (op : Option CompareOp) → operator o ≡ op → (c : ℕ) (s : Tokens) → Fits (BehindField a) (read.behind_by a op (Some o)) c (o ∷ s) (read.behind_by a op (Some o) c (o ∷ s))
    by o (Some op) is c s = skip_at (BehindField a) (read.compared a op) o (compared_keeps a op o is) c s
    by o None is c s = either_at (BehindField a) (skip >>= λ _. read.ranged a) (take unexpected (the (t.Key k.In)) >>= λ _. read.listed a) c (o ∷ s) (same_token (t.Key k.Between) o.token)
        (λ e. skip_at (BehindField a) (read.ranged a) o (ranged_keeps a o (same_at (t.Key k.Between) o e)) c s) (λ _. in_keeps.fits c (o ∷ s))

-- a field, whatever its first token calls, and what goes on behind it
abbrev Compared : Tokens → Cond → Tokens → Type 0
Compared s b r = (a : Field) × (m : Tokens) × SpellsField s a m × BehindField a m b r

compared_all : Keeps Compared read.comparison
unfolding read.comparison
compared_all = bind_keeps read.behind_field field_keeps (λ a. map_keeps (λ m b r h s d. (a, m, d, h)) (behind_keeps a))

lift_tested : (x : Placed) → tests (function x) ≡ false → (s r : Tokens) (b : Cond) → Compared (x ∷ s) b r → Spells Test (x ∷ s) b r
lift_tested x free s r b h = h.3 (x ∷ s) (tested free h.2)

-- ---- the rules

abbrev true_token : Placed
true_token = at_start (t.Key k.True)

test_short : Goes (Spells Test) []
test_short = record { more = true_token ∷ []; tree = Cond.True; spells = λ z. always refl }

negation_short : Goes (Spells Neg) []
negation_short = record { more = true_token ∷ []; tree = Cond.True; spells = λ z. test (always refl) }

whole_short : Goes (Spells Whole) []
whole_short = record { more = true_token ∷ []; tree = Cond.True; spells = λ z. conj (neg (test (always refl))) }

comparison_fits : (x : Placed) → tests (function x) ≡ false → (c : ℕ) (s : Tokens) → Fits (Spells Test) read.comparison c (x ∷ s) (read.comparison c (x ∷ s))
comparison_fits x free c s = head_fits Compared (Spells Test) read.comparison x test_short (lift_tested x free) (λ s b d. let less = passes d in omega (arith, less)) c s (read.comparison c (x ∷ s)) (compared_all.fits c (x ∷ s))

pub and_step : (s m r : Tokens) (p : Placed) (a b : Cond) → Spells Conj s a (p ∷ m) → Is (t.Key k.And) p → Spells Neg m b r → Spells Conj s (Cond.And a b) r
and_step s m r p a b x is y = both x is y

pub or_step : (s m r : Tokens) (p : Placed) (a b : Cond) → Spells Whole s a (p ∷ m) → Is (t.Key k.Or) p → Spells Conj m b r → Spells Whole s (Cond.Or a b) r
or_step s m r p a b x is y = either x is y

-- what is nested keeps to the grammar
pub record Inside (deeper : Deeper) : Type 0 where
  pub whole : Keeps (Spells Whole) deeper.whole
  pub negation : Keeps (Spells Neg) deeper.negation

module _ (deeper : Deeper) (inside : Inside deeper) where
  closing_keeps : (p : Placed) → Is t.Open p → Keeps (λ m b r. Spells Test (p ∷ m) b r) (read.closing deeper)
  closing_keeps p is = bind_keeps (λ a. take unexpected (the t.Close) >>= λ _. pure a) inside.whole (λ a. the_keeps t.Close refl (λ q also. pure_keeps (λ z s d. parens is d also)))

  exactly_keeps : (x : Placed) → Is (t.Key k.Exact) x → Keeps (λ m b r. Spells Test (x ∷ m) b r) (read.exactly deeper)
  exactly_keeps x word = the_keeps t.Open refl (λ p is. bind_keeps (λ a. take unexpected (the t.Close) >>= λ _. pure (Cond.Exact a)) inside.whole
      (λ a. the_keeps t.Close refl (λ q also. pure_keeps (λ z s d. exact word is d also))))

  -- at a token that calls no test
  plain_fits : (x : Placed) → tests (function x) ≡ false → (c : ℕ) (s : Tokens) → Fits (Spells Test) (read.plain_test deeper (Some x)) c (x ∷ s) (read.plain_test deeper (Some x) c (x ∷ s))
  plain_fits x free c s =
      either_at (Spells Test) (read.parentheses deeper) _ c (x ∷ s) (same_token t.Open x.token)
      (λ e. within_at (Spells Test) (read.closing deeper) x (closing_keeps x (same_at t.Open x e)) large deeper.has_room c s)
      (λ _. either_at (Spells Test) (read.exact_test deeper) _ c (x ∷ s) (same_token (t.Key k.Exact) x.token)
      (λ e. within_at (Spells Test) (read.exactly deeper) x (exactly_keeps x (same_at (t.Key k.Exact) x e)) large deeper.has_room c s)
      (λ _. either_at (Spells Test) (skip >>= λ _. pure Cond.True) read.comparison c (x ∷ s) (same_token (t.Key k.True) x.token)
      (λ e. skip_at (Spells Test) (pure Cond.True) x (pure_keeps (λ z. always (same_at (t.Key k.True) x e))) c s)
      (λ _. comparison_fits x free c s)))

  test_fits : (x : Placed) (g : Option Function) → function x ≡ g → (c : ℕ) (s : Tokens) → Fits (Spells Test) (read.test_by deeper g (Some x)) c (x ∷ s) (read.test_by deeper g (Some x) c (x ∷ s))
  test_fits x (Some f.StartsWith) call c s = skip_at (Spells Test) read.starting x (starting_keeps x call) c s
  test_fits x (Some f.Exists) call c s = skip_at (Spells Test) read.existing x (existing_keeps x call) c s
  test_fits x (Some f.Count) call c s = plain_fits x (ap tests call) c s
  test_fits x (Some f.Sum) call c s = plain_fits x (ap tests call) c s
  test_fits x None call c s = plain_fits x (ap tests call) c s

  test_keeps : Keeps (Spells Test) (read.one_test deeper)
  unfolding read.one_test
  test_keeps = choose_keeps (Spells Test) (read.test_at deeper) test_short (λ c. refuse_at {X = Spells Test} unexpected test_short c []) (λ x. test_fits x (function x) refl)

  plain_negation : Keeps (Spells Neg) (read.one_test deeper)
  plain_negation = map_keeps (λ s a r. test) test_keeps

  negation_keeps : Keeps (Spells Neg) (read.negation deeper)
  unfolding read.negation
  negation_keeps = choose_keeps (Spells Neg) (λ h. cond (next_is (t.Key k.Not) h) (within large deeper.has_room (skip >>= λ _. deeper.negation >>= λ a. pure (Cond.Not a))) (read.one_test deeper))
      plain_negation.short (λ c. plain_negation.fits c [])
      (λ x c s. either_at (Spells Neg) (within large deeper.has_room (skip >>= λ _. deeper.negation >>= λ a. pure (Cond.Not a))) (read.one_test deeper) c (x ∷ s) (same_token (t.Key k.Not) x.token)
      (λ e. within_at (Spells Neg) (deeper.negation >>= λ a. pure (Cond.Not a)) x
      (bind_keeps (λ a. pure (Cond.Not a)) inside.negation (λ a. pure_keeps (λ z s d. denied (same_at (t.Key k.Not) x e) d))) large deeper.has_room c s)
      (λ _. plain_negation.fits c (x ∷ s)))

  conjunction_keeps : Keeps (Spells Conj) (read.conjunction deeper)
  unfolding read.conjunction
  conjunction_keeps = bind_keeps (chain (t.Key k.And) (read.negation deeper) Cond.And) (map_keeps (λ s a r. neg) negation_keeps)
      (chain_keeps (Spells Conj) (Spells Neg) (t.Key k.And) (read.negation deeper) Cond.And negation_keeps and_step)

  whole_keeps : Keeps (Spells Whole) (read.whole deeper)
  unfolding read.whole
  whole_keeps = bind_keeps (chain (t.Key k.Or) (read.conjunction deeper) Cond.Or) (map_keeps (λ s a r. conj) conjunction_keeps)
      (chain_keeps (Spells Whole) (Spells Conj) (t.Key k.Or) (read.conjunction deeper) Cond.Or conjunction_keeps or_step)

-- with any room; if there is none, nothing inside is begun
pub inside_of : (room : ℕ) → Inside (deeper_of room)
unfolding deeper_of
inside_of zero = record { whole = refuse_keeps unexpected whole_short; negation = refuse_keeps unexpected negation_short }
inside_of (suc room) = record { whole = whole_keeps (deeper_of room) (inside_of room); negation = negation_keeps (deeper_of room) (inside_of room) }

pub negation_at : (room : ℕ) → Keeps (Spells Neg) (read.negation (deeper_of room))
negation_at room = negation_keeps (deeper_of room) (inside_of room)

pub conjunction_at : (room : ℕ) → Keeps (Spells Conj) (read.conjunction (deeper_of room))
conjunction_at room = conjunction_keeps (deeper_of room) (inside_of room)

pub condition_keeps : Keeps (Spells Whole) read.condition
unfolding read.condition
condition_keeps = whole_keeps (deeper_of most_open) (inside_of most_open)
