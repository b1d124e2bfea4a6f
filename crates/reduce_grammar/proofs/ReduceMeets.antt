-- What is spelled is read, or refused at the first member past the limit.
use Rattle.std.proofs.Common.{◌≡◌, ℕ, zero, suc, List, [], ◌∷◌, ◌++◌, Bool, true, false, cond, Some, refl, sym, ◌∙◌, ap, subst, append_assoc}
use Rattle.exact_parse.specs.Steps.{head, Read, and_then, ◌>>=◌, pure, take, More}
use Rattle.exact_parse.specs.Limits.{Verdict, Fine, opens}
use Rattle.exact_parse.specs.Exact.{Meets}
use Rattle.exact_parse.proofs.Loops.{loop_ends, loop_more}
use Rattle.exact_parse.proofs.Meeting.{after_meets}
use Rattle.index_tokens.specs.declared.token.Token.TheVariants as t
use Rattle.index_tokens.specs.declared.token.Placed.{Placed}
use Rattle.index_tokens.specs.Reads.{Kind, Reads}
use Rattle.index_tokens.specs.Words.{Tokens, Is, the, name, name_as, variable_as, word_new}
use Rattle.index_tokens.proofs.WordLemmas.{not_taken, word_same}
use Rattle.index_tree.specs.declared.reduce_query.FoldKind.{FoldKind}
use Rattle.index_tree.specs.declared.reduce_query.FoldKind.TheVariants as kinds
use Rattle.index_tree.specs.declared.reduce_query.FoldValue.{FoldValue}
use Rattle.index_tree.specs.declared.reduce_query.FoldValue.TheVariants as values
use Rattle.reduce_grammar.specs.declared.spelled.KeyForm.{KeyForm}
use Rattle.reduce_grammar.specs.declared.spelled.KeyForm.TheVariants as forms
use Rattle.reduce_grammar.specs.declared.spelled.SpelledKey.{SpelledKey}
use Rattle.reduce_grammar.specs.declared.spelled.PlacedFold.{PlacedFold}
use Rattle.reduce_grammar.specs.declared.spelled.SpelledReduce.{SpelledReduce}
use Rattle.reduce_grammar.specs.Limits.{most_members, folds_verdict, limit}
use Rattle.reduce_grammar.specs.Reduces.{SpellsSource, source, SpellsPart, part, SpellsParts, first_part, next_part, SpellsKey, alone, in_braces, SpellsGroup, group, SpellsSum, sum, SpellsValue, whole_key, key_part, fold, quotient, SpellsFold, named, bare, SpellsFolds, last, last_comma, more, SpellsReduce, reduce}
use Rattle.reduce_grammar.specs.Reduces.{spelled_key, in_new, only, only_part, word_key, fold_as, placed_fold, spelled_reduce}
use Rattle.reduce_grammar.specs.ReduceReading as read
use Rattle.reduce_grammar.proofs.ReduceKeeps.{Behind, parts_turn}

-- ---- which entries, and the group

source_reads : {s r : Tokens} {v : List ℕ} → SpellsSource s v r → (c : ℕ) → read.source c s ≡ Read v c r
unfolding read.source
source_reads (source f x i d h y b) c = rw (f, x, i, d, h, y, b) refl

group_reads : {s r : Tokens} {g : List ℕ} → SpellsGroup s g r → (c : ℕ) → read.group c s ≡ Read g c r
unfolding read.group
group_reads (group i x z n b) c = rw (i, x, z, n, b) refl

-- ---- the key

part_reads : {s r : Tokens} {n : List ℕ} → SpellsPart s n r → (c : ℕ) → read.part c s ≡ Read n c r
unfolding read.part
part_reads (part x p y) c = rw (x, p, y) refl

comma_next : (ns : List (List ℕ)) (k : Placed) → Is t.Comma k → read.part_next ns (Some k) ≡ More (read.part >>= λ n. pure (ns ++ n ∷ []))
comma_next ns k k_is = rw k_is refl

parts_read : {B : Type 0} {s r : Tokens} {ns : List (List ℕ)} (rest : List (List ℕ) → Reads B) → SpellsParts s ns r → (c : ℕ) →
    (read.part >>= λ n. read.parts (n ∷ []) >>= rest) c s ≡ (read.parts ns >>= rest) c r
unfolding read.parts
parts_read rest (first_part x) c = ap (λ o. and_then o (λ n. read.parts (n ∷ []) >>= rest)) (part_reads x c)
parts_read rest (next_part {m = m} {k = k} {ns = ns} {n = n} d k_is y) c = parts_read rest d c
    ∙ ap (λ o. and_then o rest) (loop_more tt Behind read.part_next parts_turn ns c k m (read.part >>= λ n. pure (ns ++ n ∷ [])) (comma_next ns k k_is))
    ∙ ap (λ o. and_then (and_then (and_then o (λ n. pure (ns ++ n ∷ []))) read.parts) rest) (part_reads y c)

parts_end : (ns : List (List ℕ)) (q : Placed) (r : Tokens) (c : ℕ) → Is t.CloseBrace q → read.parts ns c (q ∷ r) ≡ Read ns c (q ∷ r)
unfolding read.parts
parts_end ns q r c q_is = loop_ends tt Behind read.part_next parts_turn ns c (q ∷ r) (pure ns) (rw q_is refl)

key_reads : {s r : Tokens} {key : SpelledKey} → SpellsKey s key r → (c : ℕ) → read.key c s ≡ Read key c r
unfolding read.key read.key_alone read.key_in_new
key_reads (alone {x = x} {v = v} x_is p_is y_is) c = rw (not_taken word_new variable_as refl x v x_is, x_is, p_is, y_is) refl
key_reads (in_braces {r = r} {x = x} {q = q} {ns = ns} x_is b_is d q_is) c = rw (x_is, b_is) (parts_read (λ ns. take tt (the t.CloseBrace) >>= λ _. pure (spelled_key x.at (forms.New ns))) d c
    ∙ ap (λ o. and_then o (λ ns. take tt (the t.CloseBrace) >>= λ _. pure (spelled_key x.at (forms.New ns)))) (parts_end ns q r c q_is) ∙ rw q_is refl)

-- ---- members

-- no point and no sign of a quotient goes on with a member
record Stops (r : Tokens) : Type 0 where
  pub part : (ns : List (List ℕ)) → read.key_part_by ns (head r) ≡ read.no_part_as (only ns)
  pub over : (g v n : List ℕ) → read.over_by g v n (head r) ≡ pure (values.Fold kinds.Sum v n)

comma_stops : (k : Placed) (m : Tokens) → Is t.Comma k → Stops (k ∷ m)
comma_stops k m is = record { part = λ ns. rw is refl; over = λ g v n. rw is refl }

brace_stops : (k : Placed) (m : Tokens) → Is t.CloseBrace k → Stops (k ∷ m)
brace_stops k m is = record { part = λ ns. rw is refl; over = λ g v n. rw is refl }

whole_key_reads : (form : KeyForm) (n : List ℕ) (r : Tokens) (c : ℕ) → only_part form ≡ Some n → Stops r → read.key_value form c r ≡ Read (values.Key n) c r
unfolding read.key_value
whole_key_reads (forms.Alone m) n r c is stops = ap (λ o. read.no_part_as o c r) is
whole_key_reads (forms.New ns) n r c is stops = ap (λ p. p c r) (stops.part ns) ∙ ap (λ o. read.no_part_as o c r) is

key_part_reads : (form : KeyForm) (q y : Placed) (n : List ℕ) (r : Tokens) (c : ℕ) → in_new form ≡ true → Is t.Point q → name y ≡ Some n → read.key_value form c (q ∷ y ∷ r) ≡ Read (values.Key n) c r
unfolding read.key_value read.key_part
key_part_reads (forms.Alone m) q y n r c new q_is y_is = cc
key_part_reads (forms.New ns) q y n r c new q_is y_is = rw (q_is, y_is) refl

sum_reads : (g : List ℕ) {s r : Tokens} {by : List ℕ × List ℕ} → SpellsSum g s by r → (c : ℕ) → read.sum g c s ≡ Read by c r
unfolding read.sum read.divisor
sum_reads g (sum x p f o y a z q u e) c = rw (x, word_same g, p, f, o, y, a, z, q, u, e) refl

-- behind the parenthesis of a fold
folded_reads : (g : List ℕ) (kind : FoldKind) (v n : List ℕ) (r : Tokens) → Stops r → (c : ℕ) → read.folded g kind v n c r ≡ Read (values.Fold kind v n) c r
unfolding read.folded
folded_reads g kinds.Sum v n r stops c = ap (λ p. p c r) (stops.over g v n)
folded_reads g kinds.Min v n r stops c = refl
folded_reads g kinds.Max v n r stops c = refl

divided_reads : (g : List ℕ) {s r : Tokens} {by : List ℕ × List ℕ} (v n : List ℕ) (d : Placed) → Is t.Slash d → SpellsSum g s by r → (c : ℕ) →
    read.folded g kinds.Sum v n c (d ∷ s) ≡ Read (values.Quotient v n by.0 by.1) c r
unfolding read.folded read.divided
divided_reads g v n d d_is x c = rw d_is (ap (λ o. and_then o (λ by. pure (values.Quotient v n by.0 by.1))) (sum_reads g x c))

module _ (g : List ℕ) (form : KeyForm) where
  value_reads : {s r : Tokens} {a : FoldValue} → SpellsValue g form s a r → Stops r → (c : ℕ) → read.value g form c s ≡ Read a c r
  unfolding read.value read.group_value read.fold
  value_reads (whole_key {r = r} {n = n} x p k one) stops c = rw (x, word_same g, p, k) (whole_key_reads form n r c one stops)
  value_reads (key_part {r = r} {q = q} {y = y} {n = n} x p k new q_is y_is) stops c = rw (x, word_same g, p, k) (key_part_reads form q y n r c new q_is y_is)
  value_reads (fold {r = r} {f = f} {kind = kind} {v = v} {n = n} x p f_is o y a z q u e) stops c =
      rw (x, word_same g, p, not_taken word_key fold_as refl f kind f_is, f_is, o, y, a, z, q, u, e) (folded_reads g kind v n r stops c)
  value_reads (quotient {f = f} {d = d} {v = v} {n = n} x p f_is o y a z q u e d_is by) stops c =
      rw (x, word_same g, p, not_taken word_key fold_as refl f kinds.Sum f_is, f_is, o, y, a, z, q, u, e) (divided_reads g v n d d_is by c)

  member_reads : {s r : Tokens} {a : PlacedFold} → SpellsFold g form s a r → Stops r → (c : ℕ) → read.member g form c s ≡ Read a c r
  unfolding read.member read.behind read.named read.bare
  member_reads (named {x = x} {n = n} x_is e_is d) stops c = rw (x_is, e_is) (ap (λ o. and_then o (λ a. pure (placed_fold x.at n a))) (value_reads d stops c))
  member_reads (bare x new p k q y) stops c = rw (x, p, word_same g, new, k, q, y) refl

  -- ---- the list

  -- a member begins with a word
  data WordAt : Tokens → Type 0 where
    word_at : {x : Placed} {s : Tokens} {n : List ℕ} → name x ≡ Some n → WordAt (x ∷ s)

  member_begins : {s r : Tokens} {a : PlacedFold} → SpellsFold g form s a r → WordAt s
  member_begins (named x e d) = word_at x
  member_begins (bare x new p k q y) = word_at (ap name_as x)

  folds_begin : {s r : Tokens} {all : List PlacedFold} → SpellsFolds g form s all r → WordAt s
  folds_begin (last x q) = member_begins x
  folds_begin (last_comma x k q) = member_begins x
  folds_begin (more x k y) = member_begins x

  -- a first member past the limit is refused there
  open_at : {s : Tokens} (room : ℕ) → WordAt s → (v : ℕ → Verdict Placed Kind) (all : List PlacedFold) (r : Tokens) (found : List PlacedFold) (c : ℕ) →
      ((k : ℕ) → Meets (v k) all r (read.folds g form (suc k) found c s)) → Meets (opens tt room s v) all r (read.folds g form room found c s)
  unfolding read.folds read.no_room
  open_at zero (word_at {x = x} {s = s} is) v all r found c y = ap (λ o. read.no_room_as o c (x ∷ s)) is
  open_at (suc k) w v all r found c y = y k

  -- a word is no brace
  word_goes_on : {s : Tokens} → WordAt s → read.brace_by (head s) ≡ pure false
  word_goes_on (word_at {x = x} {n = n} is) = ap read.brace_as (not_taken t.CloseBrace name_as refl x n is)

  -- what is done behind a member
  abbrev behind_member : ℕ → List PlacedFold → PlacedFold → Bool → Reads (List PlacedFold)
  behind_member room found a b = cond b (pure (found ++ a ∷ [])) (read.folds g form room (found ++ a ∷ []))

  behind_one : {s m n : Tokens} {a : PlacedFold} (x : SpellsFold g form s a m) → Stops m → (b : Bool) (room : ℕ) (found : List PlacedFold) (c : ℕ) → read.ends c m ≡ Read b c n →
      read.folds g form (suc room) found c s ≡ behind_member room found a b c n
  unfolding read.folds
  behind_one {a = a} x stops b room found c is =
      ap (λ o. and_then o (λ a. read.ends >>= behind_member room found a)) (member_reads x stops c) ∙ ap (λ o. and_then o (behind_member room found a)) is

  last_meets : {s r : Tokens} {q : Placed} {a : PlacedFold} (x : SpellsFold g form s a (q ∷ r)) → Is t.CloseBrace q → (room : ℕ) (found : List PlacedFold) (c : ℕ) →
      read.folds g form (suc room) found c s ≡ Read (found ++ a ∷ []) c r
  unfolding read.ends read.brace
  last_meets {r = r} {q = q} x is room found c = behind_one x (brace_stops q r is) true room found c (rw is refl)

  last_comma_meets : {s r : Tokens} {k q : Placed} {a : PlacedFold} (x : SpellsFold g form s a (k ∷ q ∷ r)) → Is t.Comma k → Is t.CloseBrace q → (room : ℕ) (found : List PlacedFold) (c : ℕ) →
      read.folds g form (suc room) found c s ≡ Read (found ++ a ∷ []) c r
  unfolding read.ends read.brace
  last_comma_meets {r = r} {k = k} {q = q} x is also room found c = behind_one x (comma_stops k (q ∷ r) is) true room found c (rw (is, also) refl)

  more_comes : {s m : Tokens} {k : Placed} {a : PlacedFold} (x : SpellsFold g form s a (k ∷ m)) → Is t.Comma k → WordAt m → (room : ℕ) (found : List PlacedFold) (c : ℕ) →
      read.folds g form (suc room) found c s ≡ read.folds g form room (found ++ a ∷ []) c m
  unfolding read.ends read.brace
  more_comes {m = m} {k = k} x is word room found c = behind_one x (comma_stops k m is) false room found c (rw is (ap (λ p. p c m) (word_goes_on word)))

  folds_meet : {s r : Tokens} {all : List PlacedFold} (d : SpellsFolds g form s all r) (room : ℕ) (found : List PlacedFold) (c : ℕ) →
      Meets (folds_verdict d room c) (found ++ all) r (read.folds g form room found c s)
  folds_meet (last {r = r} {a = a} x is) room found c = open_at room (member_begins x) (λ k. Fine c) (found ++ a ∷ []) r found c (λ k. last_meets x is k found c)
  folds_meet (last_comma {r = r} {a = a} x is also) room found c = open_at room (member_begins x) (λ k. Fine c) (found ++ a ∷ []) r found c (λ k. last_comma_meets x is also k found c)
  folds_meet (more {m = m} {r = r} {a = a} {all = all} x is y) room found c = open_at room (member_begins x) (λ k. folds_verdict y k c) (found ++ a ∷ all) r found c
      (λ k. subst (Meets (folds_verdict y k c) (found ++ a ∷ all) r) (sym (more_comes x is (folds_begin y) k found c))
      (subst (λ all. Meets (folds_verdict y k c) all r (read.folds g form k (found ++ a ∷ []) c m)) (append_assoc found (a ∷ []) all) (folds_meet y k (found ++ a ∷ []) c)))

-- ---- the whole text

-- what is read behind the members
abbrev ended : List ℕ → SpelledKey → List ℕ → List PlacedFold → Reads SpelledReduce
ended v key g all = take tt (the t.End) >>= λ _. pure (spelled_reduce v key g all)

comes_to_members : {s m n l : Tokens} {v g : List ℕ} {key : SpelledKey} → SpellsSource s v m → SpellsKey m key n → SpellsGroup n g l →
    read.reduce_text 0 s ≡ and_then (read.folds g key.form most_members [] 0 l) (ended v key g)
unfolding read.reduce_text
comes_to_members x y z = rw (source_reads x 0, key_reads y 0, group_reads z 0) refl

pub reduce_meets : (s r : Tokens) (a : SpelledReduce) (x : SpellsReduce s a r) → Meets (limit s a r x) a r (read.reduce_text 0 s)
reduce_meets s r a (reduce {l = l} {e = e} {v = v} {g = g} {key = key} {all = all} x y z d e_is) =
    subst (Meets (folds_verdict d most_members 0) (spelled_reduce v key g all) r) (sym (comes_to_members x y z))
    (after_meets (folds_verdict d most_members 0) all (e ∷ r) (read.folds g key.form most_members [] 0 l) (ended v key g) (spelled_reduce v key g all) r
    (folds_meet g key.form d most_members [] 0) (λ c. rw e_is refl))
