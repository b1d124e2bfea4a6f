-- Chains and lists keep to their grammar, and what is spelled is read.
use Rattle.std.proofs.Common.{◌≡◌, ℕ, Bool, true, false, cond, List, [], ◌∷◌, ◌++◌, length, ◌<◌, Option, refl, ◌∙◌, ap, arith}
use Rattle.exact_parse.specs.Steps.{head, tail, Outcome, Read, Refused, and_then, ◌>>=◌, pure, Next, Ends, More, turn, loop}
use Rattle.exact_parse.specs.Limits.{Fine, Over, and_fine}
use Rattle.exact_parse.specs.Keeps.{Goes, Keeps, Then}
use Rattle.exact_parse.specs.Exact.{Meets}
use Rattle.exact_parse.specs.Loops.{LoopKeeps, NextKeeps}
use Rattle.exact_parse.proofs.Keeping.{pure_at, pure_keeps, bind_keeps, map_keeps}
use Rattle.exact_parse.proofs.Loops.{loop_keeps, loop_ends, loop_turn}
use Rattle.exact_parse.proofs.Meeting.{after_meets, ComesTo, loop_goes_on, loop_stops}
use Rattle.rql_tokens.specs.declared.token.Token.{Token}
use Rattle.rql_tokens.specs.declared.token.Placed.{Placed}
use Rattle.rql_tokens.specs.Words.{Tokens, Is, same_token, next_is}
use Rattle.rql_tokens.proofs.WordLemmas.{same_at, test_at}
use Rattle.rql_grammar.specs.Reads.{Kind, Reads, unexpected}
use Rattle.rql_grammar.specs.Fields.{SpellsList, one, more}
use Rattle.rql_grammar.specs.Limits.{Judged, list_verdict}
use Rattle.rql_grammar.specs.FieldReading.{chain_next, chain, added, list}

-- A chain of parts that are spelled by `Y`, which lead from one thing that is spelled by `X` to the next.
module _ {A B : Type 0} (X : Tokens → A → Tokens → Type 0) (Y : Tokens → B → Tokens → Type 0) (u : Token) (item : Reads B) (join : A → B → A) (keeps : Keeps Y item)
    (step : (s m r : Tokens) (p : Placed) (a : A) (b : B) → X s a (p ∷ m) → Is u p → Y m b r → X s (join a b) r) where
  chain_keep : LoopKeeps (Then X X) (chain_next u item join)
  chain_keep = record {
    short = λ a. record { more = []; tree = a; spells = λ z s d. d };
    none = λ a n. pure_at {X = Then X X a} (λ z s d. d) n [];
    some = λ a x. by a x (same_token u x.token) refl;
  }
    where
      by : (a : A) (x : Placed) (d : Bool) → same_token u x.token ≡ d → NextKeeps {K = Kind} (Then X X) a x (cond d (More (item >>= λ b. pure (join a b))) (Ends (pure a)))
      by a x true e = bind_keeps (λ b. pure (join a b)) keeps (λ b. pure_keeps (λ z m y d r h s0 w. h s0 (step s0 m z x a b w (same_at u x e) y)))
      by a x false e = λ n s. pure_at {X = Then X X a} (λ z s d. d) n _

  pub chain_keeps : (a : A) → Keeps (Then X X a) (chain u item join a)
  unfolding chain
  chain_keeps = loop_keeps unexpected (Then X X) (chain_next u item join) chain_keep

  -- ---- what a chain reads, by the next token

  pub chain_end : (a : A) (c : ℕ) (s : Tokens) → next_is u (head s) ≡ false → chain u item join a c s ≡ Read a c s
  unfolding chain
  chain_end a c s e = loop_ends unexpected (Then X X) (chain_next u item join) chain_keep a c s (pure a) (ap (λ d. cond d (More (item >>= λ b. pure (join a b))) (Ends (pure a))) e)

  pub chain_on : (a : A) (c : ℕ) (s : Tokens) → next_is u (head s) ≡ true → chain u item join a c s ≡ and_then (item c (tail s)) (λ b. chain u item join (join a b))
  unfolding chain
  chain_on a c s e =
      loop_turn unexpected (Then X X) (chain_next u item join) chain_keep a c s
      ∙ ap (λ d. turn unexpected true (loop unexpected (chain_next u item join)) (cond d (More (item >>= λ b. pure (join a b))) (Ends (pure a))) c s) e
      ∙ again (item c (tail s))
    where
      again : (o : Outcome Placed Kind B) → and_then (and_then o (λ b. pure (join a b))) (loop unexpected (chain_next u item join)) ≡ and_then o (λ b. loop unexpected (chain_next u item join) (join a b))
      again (Read b c s) = refl
      again (Refused k s) = refl

  -- ---- what is spelled is read

  pub chain_goes_on : same_token u u ≡ true → (v : Judged) (a : A) (p : Placed) (m : Tokens) (o : Outcome Placed Kind A) (w : ℕ → Judged) (b : B) (r : Tokens) →
      ComesTo (chain u item join) v a (p ∷ m) o → Is u p → ((c : ℕ) → Meets (w c) b r (item c m)) → ComesTo (chain u item join) (and_fine v w) (join a b) r o
  unfolding chain
  chain_goes_on self v a p m o w b r l is y = loop_goes_on unexpected (Then X X) (chain_next u item join) chain_keep v a p m o (item >>= λ b. pure (join a b)) w (join a b) r l
      (ap (λ d. cond d (More (item >>= λ b. pure (join a b))) (Ends (pure a))) (test_at u u true p self is))
      (λ c. after_meets (w c) b r (item c m) (λ b. pure (join a b)) (join a b) r (y c) (λ n. refl))

  pub chain_stops : (v : Judged) (a : A) (r : Tokens) (o : Outcome Placed Kind A) → next_is u (head r) ≡ false → ComesTo (chain u item join) v a r o → Meets v a r o
  unfolding chain
  chain_stops v a r o e l =
      loop_stops unexpected (Then X X) (chain_next u item join) chain_keep v a r o a (ap (λ d. cond d (More (item >>= λ b. pure (join a b))) (Ends (pure a))) e) l

-- a chain begins behind what was read, with something made of it
begins_with : {A B : Type 0} (g : A → Reads A) (f : B → A) (v : Judged) (b : B) (r : Tokens) (o : Outcome Placed Kind B) → Meets v b r o → ComesTo g v (f b) r (and_then o (λ b. g (f b)))
begins_with g f (Fine c) b r o x = ap (λ o. and_then o (λ b. g (f b))) x
begins_with g f (Over k p) b r o x = ap (λ o. and_then o (λ b. g (f b))) x

-- ---- lists

pub list_passes : {A : Type 0} {u : Token} {Y : Tokens → A → Tokens → Type 0} → ((s r : Tokens) (a : A) → Y s a r → length r < length s) →
    {s r : Tokens} {found : List A} → SpellsList u Y s found r → length r < length s
list_passes h (one {s = s} {r = r} {a = a} y) = h s r a y
list_passes h (more {m = m} {r = r} {a = a} x is y) = let before = list_passes h x in let last = h m r a y in omega (arith, before, last)

module _ {A : Type 0} (Y : Tokens → A → Tokens → Type 0) (u : Token) (item : Reads A) (keeps : Keeps Y item) where
  pub list_step : (s m r : Tokens) (p : Placed) (found : List A) (a : A) → SpellsList u Y s found (p ∷ m) → Is u p → Y m a r → SpellsList u Y s (added found a) r
  list_step s m r p found a x is y = more x is y

  pub list_keeps : Keeps (SpellsList u Y) (list u item)
  unfolding list
  list_keeps = bind_keeps (λ a. chain u item added (a ∷ [])) keeps (λ a. map_keeps (λ m b r h s d. h s (one d)) (chain_keeps (SpellsList u Y) Y u item added keeps list_step (a ∷ [])))

  -- what is read behind some of them, by the next token

  pub list_end : (found : List A) (c : ℕ) (s : Tokens) → next_is u (head s) ≡ false → chain u item added found c s ≡ Read found c s
  list_end = chain_end (SpellsList u Y) Y u item added keeps list_step

  pub list_on : (found : List A) (c : ℕ) (s : Tokens) → next_is u (head s) ≡ true → chain u item added found c s ≡ and_then (item c (tail s)) (λ a. chain u item added (added found a))
  list_on = chain_on (SpellsList u Y) Y u item added keeps list_step

  -- `Fit` is what may follow one of them
  module _ (v : (s : Tokens) (a : A) (r : Tokens) → Y s a r → ℕ → Judged) (Fit : Tokens → Type 0) (self : same_token u u ≡ true) (fit : (p : Placed) (m : Tokens) → Is u p → Fit (p ∷ m))
      (meets : (s r : Tokens) (a : A) (y : Y s a r) → Fit r → (c : ℕ) → Meets (v s a r y c) a r (item c s)) where
    list_reach : {s r : Tokens} {found : List A} (x : SpellsList u Y s found r) → Fit r → (c : ℕ) → ComesTo (chain u item added) (list_verdict v x c) found r (list u item c s)
    unfolding list
    list_reach (one {s = s} {r = r} {a = a} y) end c = begins_with (chain u item added) (λ a. a ∷ []) (v s a r y c) a r (item c s) (meets s r a y end c)
    list_reach (more {s = s} {m = m} {r = r} {p = p} {found = found} {a = a} x is y) end c =
        chain_goes_on (SpellsList u Y) Y u item added keeps list_step self (list_verdict v x c) found p m (list u item c s) (λ c. v m a r y c) a r (list_reach x (fit p m is) c) is (λ c. meets m r a y end c)

    pub list_meets : {s r : Tokens} {found : List A} (x : SpellsList u Y s found r) → Fit r → next_is u (head r) ≡ false → (c : ℕ) → Meets (list_verdict v x c) found r (list u item c s)
    list_meets {s = s} {r = r} {found = found} x end e c = chain_stops (SpellsList u Y) Y u item added keeps list_step (list_verdict v x c) found r (list u item c s) e (list_reach x end c)
