-- What is spelled as a condition is read, unless it is past a limit, and then refused there.
use Rattle.std.proofs.Common.{◌≡◌, ℕ, zero, suc, Bool, true, false, cond, List, [], ◌∷◌, Option, Some, None, refl, sym, ◌∙◌, ap, subst, inl, inr, ◌⊎◌}
use Rattle.exact_parse.specs.Steps.{head, Outcome, Read, and_then, ◌>>=◌, ◌>>◌, pure, skip, within, take}
use Rattle.exact_parse.specs.Limits.{Fine, opens}
use Rattle.exact_parse.specs.Exact.{Meets}
use Rattle.exact_parse.proofs.Meeting.{after_meets, ComesTo, loop_begins}
use Rattle.spec_query.specs.Query.{Field, Operand, CompareOp, Cond}
use Rattle.rql_tokens.specs.declared.key_words.KeyWord.TheVariants as k
use Rattle.rql_tokens.specs.declared.key_words.Function.{Function}
use Rattle.rql_tokens.specs.declared.key_words.Function.TheVariants as f
use Rattle.rql_tokens.specs.declared.token.Token.{Token}
use Rattle.rql_tokens.specs.declared.token.Token.TheVariants as t
use Rattle.rql_tokens.specs.declared.token.Placed.{Placed}
use Rattle.rql_tokens.specs.Words.{Tokens, Is, next_is, same_token, the, function_as, function, part}
use Rattle.rql_tokens.proofs.WordLemmas.{test_at}
use Rattle.rql_grammar.specs.Reads.{Kind, Reads, unexpected, large}
use Rattle.rql_grammar.specs.Fields.{SpellsList, SpellsField, SpellsValue}
use Rattle.rql_grammar.specs.Conditions.{operator_as, operator, tests, SpellsTested, tested, Rule, Whole, Conj, Neg, Test, Spells, conj, either, neg, both, denied, test, parens, exact, always, starts, exists, compare, between, among}
use Rattle.rql_grammar.specs.Limits.{Judged, most_open, field_verdict, tested_verdict, verdict}
use Rattle.rql_grammar.specs.FieldReading.{chain, list, field, value}
use Rattle.rql_grammar.specs.ConditionReading as read
use Rattle.rql_grammar.specs.ConditionReading.{Deeper, deeper_of}
use Rattle.rql_grammar.proofs.Taking.{the_reads}
use Rattle.rql_grammar.proofs.Chains.{chain_goes_on, chain_stops}
use Rattle.rql_grammar.proofs.ConditionKeeps.{and_step, or_step, negation_at, conjunction_at}
use Rattle.rql_grammar.proofs.FieldKeeps.{value_keeps}
use Rattle.rql_grammar.proofs.FieldMeets.{PartAt, call_part, field_part, no_token, no_key, field_meets, value_read, values_read}

-- ---- a field at the start of a test

tested_part : {s r : Tokens} {a : Field} → SpellsTested s a r → PartAt s
tested_part (tested free d) = field_part d

free_test : (deeper : Deeper) (g : Option Function) (h : Option Placed) → tests g ≡ false → read.test_by deeper g h ≡ read.plain_test deeper h
free_test deeper (Some f.StartsWith) h e = cc
free_test deeper (Some f.Exists) h e = cc
free_test deeper (Some f.Count) h e = refl
free_test deeper (Some f.Sum) h e = refl
free_test deeper None h e = refl

-- a test that begins with a name or a text
part_test : (deeper : Deeper) (x : Placed) (m : Tokens) → PartAt (x ∷ m) → read.plain_test deeper (Some x) ≡ read.comparison
part_test deeper x m is =
    ap (λ d. cond d (read.parentheses deeper) (cond (same_token (t.Key k.Exact) x.token) (read.exact_test deeper) (cond (same_token (t.Key k.True) x.token) (skip >> pure Cond.True) read.comparison)))
    (no_token t.Open (λ n. refl) (λ n. refl) (x ∷ m) is)
    ∙ ap (λ d. cond d (read.exact_test deeper) (cond (same_token (t.Key k.True) x.token) (skip >> pure Cond.True) read.comparison)) (no_key k.Exact (x ∷ m) is)
    ∙ ap (λ d. cond d (skip >> pure Cond.True) read.comparison) (no_key k.True (x ∷ m) is)

comparison_by : (deeper : Deeper) (x : Placed) (m : Tokens) → tests (function x) ≡ false → PartAt (x ∷ m) → (c : ℕ) → read.one_test deeper c (x ∷ m) ≡ read.comparison c (x ∷ m)
unfolding read.one_test
comparison_by deeper x m free is c = ap (λ p. p c (x ∷ m)) (free_test deeper (function x) (Some x) free ∙ part_test deeper x m is)

comparison_read : (deeper : Deeper) {s r : Tokens} {a : Field} → SpellsTested s a r → (c : ℕ) → read.one_test deeper c s ≡ read.comparison c s
comparison_read deeper (tested {s = s} {x = x} free d) c = comparison_by deeper x s free (field_part d) c

tested_meets : {s r : Tokens} {a : Field} (x : SpellsTested s a r) → next_is t.Point (head r) ≡ false → (c : ℕ) → Meets (tested_verdict x c) a r (field c s)
tested_meets (tested {s = s} {r = r} {x = x} {a = a} free d) e c = field_meets (x ∷ s) r a d e c

-- a test that is a comparison, if what is behind its field is read
comparison_meets : (deeper : Deeper) {s r : Tokens} {a : Field} (x : SpellsTested s a r) → next_is t.Point (head r) ≡ false → (b : Cond) (z : Tokens) → ((c : ℕ) → read.behind_field a c r ≡ Read b c z) → (c : ℕ) →
    Meets (tested_verdict x c) b z (read.one_test deeper c s)
unfolding read.comparison
comparison_meets deeper {s = s} {r = r} {a = a} x e b z behind c =
    subst (Meets (tested_verdict x c) b z) (sym (comparison_read deeper x c)) (after_meets (tested_verdict x c) a r (field c s) read.behind_field b z (tested_meets x e c) behind)

no_point : (u : Token) (op : CompareOp) → operator_as u ≡ Some op → same_token t.Point u ≡ false
no_point t.Point op e = cc
no_point _ op e = refl

compare_meets : (deeper : Deeper) {s m r : Tokens} {o : Placed} {a : Field} {op : CompareOp} {v : Operand} (x : SpellsTested s a (o ∷ m)) (is : operator o ≡ Some op) (w : SpellsValue m v r) (c : ℕ) →
    Meets (tested_verdict x c) (Cond.Compare a op v) r (read.one_test deeper c s)
unfolding read.behind_field
compare_meets deeper {m = m} {r = r} {o = o} {a = a} {op = op} {v = v} x is w c = comparison_meets deeper x (no_point o.token op is) (Cond.Compare a op v) r
    (λ c. ap (λ i. read.behind_by a i (Some o) c (o ∷ m)) is ∙ ap (λ i. and_then i (λ v. pure (Cond.Compare a op v))) (value_read m r v w c)) c

-- at a key word behind a field
behind_key : (a : Field) (o : Placed) (u : Token) (d : Bool) (m : Tokens) (c : ℕ) → operator_as u ≡ None → same_token (t.Key k.Between) u ≡ d → Is u o →
    read.behind_field a c (o ∷ m) ≡ cond d (skip >> read.ranged a) (take unexpected (the (t.Key k.In)) >>= λ _. read.listed a) c (o ∷ m)
unfolding read.behind_field
behind_key a o u d m c e f is =
    ap (λ i. read.behind_by a i (Some o) c (o ∷ m)) (ap operator_as is ∙ e)
    ∙ ap (λ d. cond d (skip >> read.ranged a) (take unexpected (the (t.Key k.In)) >>= λ _. read.listed a) c (o ∷ m)) (test_at (t.Key k.Between) u d o f is)

between_meets : (deeper : Deeper) {s m n r : Tokens} {o q : Placed} {a : Field} {v w : Operand} (x : SpellsTested s a (o ∷ m)) → Is (t.Key k.Between) o → SpellsValue m v (q ∷ n) → Is (t.Key k.And) q → SpellsValue n w r →
    (c : ℕ) → Meets (tested_verdict x c) (Cond.Between a v w) r (read.one_test deeper c s)
between_meets deeper {m = m} {n = n} {r = r} {o = o} {q = q} {a = a} {v = v} {w = w} x is low word high c =
    comparison_meets deeper x (test_at t.Point (t.Key k.Between) false o refl is) (Cond.Between a v w) r
    (λ c. behind_key a o (t.Key k.Between) true m c refl refl is
    ∙ ap (λ i. and_then i (λ v. take unexpected (the (t.Key k.And)) >>= λ _. value >>= λ w. pure (Cond.Between a v w))) (value_read m (q ∷ n) v low c)
    ∙ the_reads (t.Key k.And) q (value >>= λ w. pure (Cond.Between a v w)) refl word c n
    ∙ ap (λ i. and_then i (λ w. pure (Cond.Between a v w))) (value_read n r w high c)) c

among_meets : (deeper : Deeper) {s m r : Tokens} {o p q : Placed} {a : Field} {vs : List Operand} (x : SpellsTested s a (o ∷ p ∷ m)) → Is (t.Key k.In) o → Is t.Open p → SpellsList t.Comma SpellsValue m vs (q ∷ r) →
    Is t.Close q → (c : ℕ) → Meets (tested_verdict x c) (Cond.In a vs) r (read.one_test deeper c s)
among_meets deeper {m = m} {r = r} {o = o} {p = p} {q = q} {a = a} {vs = vs} x is opening ws also c =
    comparison_meets deeper x (test_at t.Point (t.Key k.In) false o refl is) (Cond.In a vs) r
    (λ c. behind_key a o (t.Key k.In) false (p ∷ m) c refl refl is
    ∙ the_reads (t.Key k.In) o (read.listed a) refl is c (p ∷ m)
    ∙ the_reads t.Open p (list t.Comma value >>= λ vs. take unexpected (the t.Close) >>= λ _. pure (Cond.In a vs)) refl opening c m
    ∙ ap (λ i. and_then i (λ vs. take unexpected (the t.Close) >>= λ _. pure (Cond.In a vs))) (values_read ws (test_at t.Comma t.Close false q refl also) c)
    ∙ the_reads t.Close q (pure (Cond.In a vs)) refl also c r) c

-- ---- tests that begin with a call, a mark or a key word

call_read : (deeper : Deeper) (x : Placed) (g : Function) (m : Tokens) → function x ≡ Some g → (c : ℕ) → read.one_test deeper c (x ∷ m) ≡ read.test_by deeper (Some g) (Some x) c (x ∷ m)
unfolding read.one_test
call_read deeper x g m is c = ap (λ g. read.test_by deeper g (Some x) c (x ∷ m)) is

no_call_by : (d : Bool) (u : Token) → function_as u ≡ None → cond d (function_as u) None ≡ None
no_call_by true u e = e
no_call_by false u e = refl

-- by the token alone
abbrev plain_as : Deeper → Token → Reads Cond
plain_as deeper u =
    cond (same_token t.Open u) (read.parentheses deeper) (cond (same_token (t.Key k.Exact) u) (read.exact_test deeper) (cond (same_token (t.Key k.True) u) (skip >> pure Cond.True) read.comparison))

mark_read : (deeper : Deeper) (x : Placed) (u : Token) (m : Tokens) → function_as u ≡ None → Is u x → (c : ℕ) → read.one_test deeper c (x ∷ m) ≡ plain_as deeper u c (x ∷ m)
unfolding read.one_test
mark_read deeper x u m e is c =
    ap (λ g. read.test_by deeper g (Some x) c (x ∷ m)) (no_call_by x.called x.token (ap function_as is ∙ e)) ∙ ap (λ u. plain_as deeper u c (x ∷ m)) is

starts_meets : (deeper : Deeper) {s m r : Tokens} {q y : Placed} {a : Field} {v : Operand} (x p : Placed) → function x ≡ Some f.StartsWith → Is t.Open p → (d : SpellsField s a (q ∷ m)) → Is t.Comma q → SpellsValue m v (y ∷ r) →
    Is t.Close y → (c : ℕ) → Meets (field_verdict s a (q ∷ m) d c) (Cond.Starts a v) r (read.one_test deeper c (x ∷ p ∷ s))
starts_meets deeper {s = s} {m = m} {r = r} {q = q} {y = y} {a = a} {v = v} x p word is d comma w also c =
    subst (Meets (field_verdict s a (q ∷ m) d c) (Cond.Starts a v) r)
    (sym (call_read deeper x f.StartsWith (p ∷ s) word c
    ∙ the_reads t.Open p (field >>= λ a. take unexpected (the t.Comma) >>= λ _. value >>= λ v. take unexpected (the t.Close) >>= λ _. pure (Cond.Starts a v)) refl is c s))
    (after_meets (field_verdict s a (q ∷ m) d c) a (q ∷ m) (field c s) (λ a. take unexpected (the t.Comma) >>= λ _. value >>= λ v. take unexpected (the t.Close) >>= λ _. pure (Cond.Starts a v)) (Cond.Starts a v) r
    (field_meets s (q ∷ m) a d (test_at t.Point t.Comma false q refl comma) c)
    (λ c. the_reads t.Comma q (value >>= λ v. take unexpected (the t.Close) >>= λ _. pure (Cond.Starts a v)) refl comma c m
    ∙ ap (λ i. and_then i (λ v. take unexpected (the t.Close) >>= λ _. pure (Cond.Starts a v))) (value_read m (y ∷ r) v w c)
    ∙ the_reads t.Close y (pure (Cond.Starts a v)) refl also c r))

exists_meets : (deeper : Deeper) {s r : Tokens} {q : Placed} {a : Field} (x p : Placed) → function x ≡ Some f.Exists → Is t.Open p → (d : SpellsField s a (q ∷ r)) → Is t.Close q → (c : ℕ) →
    Meets (field_verdict s a (q ∷ r) d c) (Cond.Exists a) r (read.one_test deeper c (x ∷ p ∷ s))
exists_meets deeper {s = s} {r = r} {q = q} {a = a} x p word is d also c =
    subst (Meets (field_verdict s a (q ∷ r) d c) (Cond.Exists a) r)
    (sym (call_read deeper x f.Exists (p ∷ s) word c ∙ the_reads t.Open p (field >>= λ a. take unexpected (the t.Close) >>= λ _. pure (Cond.Exists a)) refl is c s))
    (after_meets (field_verdict s a (q ∷ r) d c) a (q ∷ r) (field c s) (λ a. take unexpected (the t.Close) >>= λ _. pure (Cond.Exists a)) (Cond.Exists a) r
    (field_meets s (q ∷ r) a d (test_at t.Point t.Close false q refl also) c) (λ c. the_reads t.Close q (pure (Cond.Exists a)) refl also c r))

-- ---- what a rule's reading gives at a spelling; a whole condition ends where no `and` follows

module _ (room : ℕ) where
  abbrev deeper : Deeper
  deeper = deeper_of room

  abbrev pub Reach : (rule : Rule) {s r : Tokens} {a : Cond} → Spells rule s a r → ℕ → Tokens → Cond → Tokens → Type 0
  Reach Whole x c s a r = next_is (t.Key k.And) (head r) ≡ false → ComesTo (chain (t.Key k.Or) (read.conjunction deeper) Cond.Or) (verdict x room c) a r (read.whole deeper c s)
  Reach Conj x c s a r = ComesTo (chain (t.Key k.And) (read.negation deeper) Cond.And) (verdict x room c) a r (read.conjunction deeper c s)
  Reach Neg x c s a r = Meets (verdict x room c) a r (read.negation deeper c s)
  Reach Test x c s a r = Meets (verdict x room c) a r (read.one_test deeper c s)

  conj_read : {s r : Tokens} {a : Cond} (x : Spells Conj s a r) (c : ℕ) → Reach Conj x c s a r → next_is (t.Key k.And) (head r) ≡ false → Meets (verdict x room c) a r (read.conjunction deeper c s)
  conj_read {s = s} {r = r} {a = a} x c h low =
      chain_stops (Spells Conj) (Spells Neg) (t.Key k.And) (read.negation deeper) Cond.And (negation_at room) and_step (verdict x room c) a r (read.conjunction deeper c s) low h

  whole_read : {s r : Tokens} {a : Cond} (x : Spells Whole s a r) (c : ℕ) → Reach Whole x c s a r → next_is (t.Key k.And) (head r) ≡ false → next_is (t.Key k.Or) (head r) ≡ false →
      Meets (verdict x room c) a r (read.whole deeper c s)
  whole_read {s = s} {r = r} {a = a} x c h low lower =
      chain_stops (Spells Whole) (Spells Conj) (t.Key k.Or) (read.conjunction deeper) Cond.Or (conjunction_at room) or_step (verdict x room c) a r (read.whole deeper c s) lower (h low)

  conj_reach : {s r : Tokens} {a : Cond} (x : Spells Conj s a r) (c : ℕ) → Reach Conj x c s a r → Reach Whole (conj x) c s a r
  unfolding read.whole
  conj_reach {s = s} {r = r} {a = a} x c h low = loop_begins (chain (t.Key k.Or) (read.conjunction deeper) Cond.Or) (verdict x room c) a r (read.conjunction deeper c s) (conj_read x c h low)

  either_reach : {s m r : Tokens} {o : Placed} {a b : Cond} (x : Spells Whole s a (o ∷ m)) (is : Is (t.Key k.Or) o) (y : Spells Conj m b r) (c : ℕ) →
      Reach Whole x c s a (o ∷ m) → ((c : ℕ) → Reach Conj y c m b r) → Reach Whole (either x is y) c s (Cond.Or a b) r
  either_reach {s = s} {m = m} {r = r} {o = o} {a = a} {b = b} x is y c h i low =
      chain_goes_on (Spells Whole) (Spells Conj) (t.Key k.Or) (read.conjunction deeper) Cond.Or (conjunction_at room) or_step refl (verdict x room c) a o m (read.whole deeper c s) (λ c. verdict y room c) b r
      (h (test_at (t.Key k.And) (t.Key k.Or) false o refl is)) is (λ c. conj_read y c (i c) low)

  neg_reach : {s r : Tokens} {a : Cond} (x : Spells Neg s a r) (c : ℕ) → Reach Neg x c s a r → Reach Conj (neg x) c s a r
  unfolding read.conjunction
  neg_reach {s = s} {r = r} {a = a} x c h = loop_begins (chain (t.Key k.And) (read.negation deeper) Cond.And) (verdict x room c) a r (read.negation deeper c s) h

  both_reach : {s m r : Tokens} {o : Placed} {a b : Cond} (x : Spells Conj s a (o ∷ m)) (is : Is (t.Key k.And) o) (y : Spells Neg m b r) (c : ℕ) →
      Reach Conj x c s a (o ∷ m) → ((c : ℕ) → Reach Neg y c m b r) → Reach Conj (both x is y) c s (Cond.And a b) r
  both_reach {s = s} {m = m} {r = r} {o = o} {a = a} {b = b} x is y c h i =
      chain_goes_on (Spells Conj) (Spells Neg) (t.Key k.And) (read.negation deeper) Cond.And (negation_at room) and_step refl (verdict x room c) a o m (read.conjunction deeper c s) (λ c. verdict y room c) b r h is i

  test_reach : {s r : Tokens} {a : Cond} (x : Spells Test s a r) (c : ℕ) → next_is (t.Key k.Not) (head s) ≡ false → Reach Test x c s a r → Reach Neg (test x) c s a r
  unfolding read.negation
  test_reach {s = s} {r = r} {a = a} x c e h =
      subst (λ d. Meets (verdict x room c) a r (cond d (within large deeper.has_room (skip >> (deeper.negation >>= λ a. pure (Cond.Not a)))) (read.one_test deeper) c s)) (sym e) h

-- what a test begins with is no `not`
abbrev Begins : Rule → Tokens → Type 0
Begins Test s = next_is (t.Key k.Not) (head s) ≡ false
Begins _ s = Unit {0}

test_begins : {rule : Rule} {s r : Tokens} {a : Cond} → Spells rule s a r → Begins rule s
test_begins (parens {p = p} is x also) = test_at (t.Key k.Not) t.Open false p refl is
test_begins (exact {x = x} word is y also) = test_at (t.Key k.Not) (t.Key k.Exact) false x refl word
test_begins (always {x = x} is) = test_at (t.Key k.Not) (t.Key k.True) false x refl is
test_begins (starts {s = s} {x = x} {p = p} word is d comma w also) = no_key k.Not (x ∷ p ∷ s) (call_part x (p ∷ s) f.StartsWith word)
test_begins (exists {s = s} {x = x} {p = p} word is d also) = no_key k.Not (x ∷ p ∷ s) (call_part x (p ∷ s) f.Exists word)
test_begins (compare {s = s} d is w) = no_key k.Not s (tested_part d)
test_begins (between {s = s} d is w word v) = no_key k.Not s (tested_part d)
test_begins (among {s = s} d is opening ws also) = no_key k.Not s (tested_part d)
test_begins _ = tt

-- ---- parts that open, by the room that is left

denied_reach : {s r : Tokens} {a : Cond} (o : Placed) (is : Is (t.Key k.Not) o) (x : Spells Neg s a r) → ((room c : ℕ) → Reach room Neg x c s a r) →
    (room c : ℕ) → Reach room Neg (denied {o = o} is x) c (o ∷ s) (Cond.Not a) r
unfolding read.negation deeper_of
denied_reach {s = s} {r = r} {a = a} o is x h room c =
    subst (λ d. Meets (opens large room (o ∷ s) (λ room. verdict x room c)) (Cond.Not a) r
    (cond d (within large (deeper_of room).has_room (skip >> ((deeper_of room).negation >>= λ a. pure (Cond.Not a)))) (read.one_test (deeper_of room)) c (o ∷ s)))
    (sym (test_at (t.Key k.Not) (t.Key k.Not) true o refl is)) (by room)
  where
    by : (room : ℕ) → Meets (opens large room (o ∷ s) (λ room. verdict x room c)) (Cond.Not a) r
        (within large (deeper_of room).has_room (skip >> ((deeper_of room).negation >>= λ a. pure (Cond.Not a))) c (o ∷ s))
    by zero = refl
    by (suc room) = after_meets (verdict x room c) a r (read.negation (deeper_of room) c s) (λ a. pure (Cond.Not a)) (Cond.Not a) r (h room c) (λ n. refl)

parens_reach : {s r : Tokens} {q : Placed} {a : Cond} (p : Placed) (is : Is t.Open p) (x : Spells Whole s a (q ∷ r)) (also : Is t.Close q) → ((room c : ℕ) → Reach room Whole x c s a (q ∷ r)) →
    (room c : ℕ) → Reach room Test (parens {p = p} is x also) c (p ∷ s) a r
unfolding deeper_of
parens_reach {s = s} {r = r} {q = q} {a = a} p is x also h room c =
    subst (Meets (opens large room (p ∷ s) (λ room. verdict x room c)) a r) (sym (mark_read (deeper_of room) p t.Open s refl is c)) (by room)
  where
    by : (room : ℕ) → Meets (opens large room (p ∷ s) (λ room. verdict x room c)) a r (plain_as (deeper_of room) t.Open c (p ∷ s))
    by zero = refl
    by (suc room) = after_meets (verdict x room c) a (q ∷ r) (read.whole (deeper_of room) c s) (λ a. take unexpected (the t.Close) >>= λ _. pure a) a r
        (whole_read room x c (h room c) (test_at (t.Key k.And) t.Close false q refl also) (test_at (t.Key k.Or) t.Close false q refl also)) (λ n. the_reads t.Close q (pure a) refl also n r)

exact_reach : {s r : Tokens} {q : Placed} {a : Cond} (w p : Placed) (word : Is (t.Key k.Exact) w) (is : Is t.Open p) (x : Spells Whole s a (q ∷ r)) (also : Is t.Close q) →
    ((room c : ℕ) → Reach room Whole x c s a (q ∷ r)) → (room c : ℕ) → Reach room Test (exact {x = w} {p = p} word is x also) c (w ∷ p ∷ s) (Cond.Exact a) r
unfolding deeper_of
exact_reach {s = s} {r = r} {q = q} {a = a} w p word is x also h room c =
    subst (Meets (opens large room (w ∷ p ∷ s) (λ room. verdict x room c)) (Cond.Exact a) r) (sym (mark_read (deeper_of room) w (t.Key k.Exact) (p ∷ s) refl word c)) (by room)
  where
    by : (room : ℕ) → Meets (opens large room (w ∷ p ∷ s) (λ room. verdict x room c)) (Cond.Exact a) r (plain_as (deeper_of room) (t.Key k.Exact) c (w ∷ p ∷ s))
    by zero = refl
    by (suc room) =
        subst (Meets (verdict x room c) (Cond.Exact a) r)
        (sym (the_reads t.Open p (read.whole (deeper_of room) >>= λ a. take unexpected (the t.Close) >>= λ _. pure (Cond.Exact a)) refl is c s))
        (after_meets (verdict x room c) a (q ∷ r) (read.whole (deeper_of room) c s) (λ a. take unexpected (the t.Close) >>= λ _. pure (Cond.Exact a)) (Cond.Exact a) r
        (whole_read room x c (h room c) (test_at (t.Key k.And) t.Close false q refl also) (test_at (t.Key k.Or) t.Close false q refl also)) (λ n. the_reads t.Close q (pure (Cond.Exact a)) refl also n r))

-- ---- all of it

pub reach : {rule : Rule} {s r : Tokens} {a : Cond} (x : Spells rule s a r) (room c : ℕ) → Reach room rule x c s a r
reach (conj x) room c = conj_reach room x c (reach x room c)
reach (either x is y) room c = either_reach room x is y c (reach x room c) (reach y room)
reach (neg x) room c = neg_reach room x c (reach x room c)
reach (both x is y) room c = both_reach room x is y c (reach x room c) (reach y room)
reach (denied {o = o} is x) room c = denied_reach o is x (reach x) room c
reach (test x) room c = test_reach room x c (test_begins x) (reach x room c)
reach (parens {p = p} is x also) room c = parens_reach p is x also (reach x) room c
reach (exact {x = w} {p = p} word is x also) room c = exact_reach w p word is x also (reach x) room c
reach (always {r = r} {x = x} is) room c = mark_read (deeper_of room) x (t.Key k.True) r refl is c
reach (starts {x = x} {p = p} word is d comma w also) room c = starts_meets (deeper_of room) x p word is d comma w also c
reach (exists {x = x} {p = p} word is d also) room c = exists_meets (deeper_of room) x p word is d also c
reach (compare d is w) room c = compare_meets (deeper_of room) d is w c
reach (between d is low word high) room c = between_meets (deeper_of room) d is low word high c
reach (among d is opening ws also) room c = among_meets (deeper_of room) d is opening ws also c

pub condition_meets : {s r : Tokens} {a : Cond} (x : Spells Whole s a r) → next_is (t.Key k.And) (head r) ≡ false → next_is (t.Key k.Or) (head r) ≡ false → (c : ℕ) →
    Meets (verdict x most_open c) a r (read.condition c s)
unfolding read.condition
condition_meets x low lower c = whole_read most_open x c (reach x most_open c) low lower
