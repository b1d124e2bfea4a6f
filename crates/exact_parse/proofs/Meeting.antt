-- What is spelled is read, unless it is past a limit, and then refused there: one step after the other.
use Rattle.std.proofs.Common.{◌≡◌, ℕ, ◌+◌, Bool, true, false, nat_lt, List, ◌∷◌, Option, Some, ◌∙◌, ap, cond}
use Rattle.exact_parse.specs.Steps.{head, TooLarge, Outcome, Read, Refused, Reader, and_then, ◌>>=◌, pure, take, take_as, Next, Ends, More, Counts, loop}
use Rattle.exact_parse.specs.Limits.{Verdict, Fine, Over, and_fine, counts}
use Rattle.exact_parse.specs.Exact.{Meets}
use Rattle.exact_parse.specs.Loops.{LoopKeeps}
use Rattle.exact_parse.proofs.Loops.{loop_ends, loop_more, loop_counts}

-- one after the other
module _ {T K A B : Type 0} where
  pub then_meets : (v : Verdict T K) (a : A) (r : List T) (o : Outcome T K A) (f : A → Reader T K B) (w : ℕ → Verdict T K) (b : B) (t : List T) →
      Meets v a r o → ((c : ℕ) → Meets (w c) b t (f a c r)) → Meets (and_fine v w) b t (and_then o f)
  then_meets (Fine c) a r o f w b t x y = on (w c) (y c)
    where
      on : (v : Verdict T K) → Meets v b t (f a c r) → Meets v b t (and_then o f)
      on (Fine n) z = ap (λ o. and_then o f) x ∙ z
      on (Over j p) z = ap (λ o. and_then o f) x ∙ z
  then_meets (Over j p) a r o f w b t x y = ap (λ o. and_then o f) x

-- and what follows has no limit
pub after_meets : {T K A B : Type 0} (v : Verdict T K) (a : A) (r : List T) (o : Outcome T K A) (f : A → Reader T K B) (b : B) (t : List T) →
    Meets v a r o → ((c : ℕ) → f a c r ≡ Read b c t) → Meets v b t (and_then o f)
after_meets (Fine c) a r o f b t x y = ap (λ o. and_then o f) x ∙ y c
after_meets (Over j p) a r o f b t x y = ap (λ o. and_then o f) x

-- a token with a value
pub take_reads : {T K V : Type 0} (k : K) (value : T → Option V) (x : T) (v : V) → value x ≡ Some v → (c : ℕ) (r : List T) → take k value c (x ∷ r) ≡ Read v c r
take_reads k value x v is c r = ap (λ o. take_as k o c (x ∷ r)) is

-- ---- loops

-- The reading has come to what goes on from `a`, or was refused past a limit.
abbrev pub ComesTo : {T K A B : Type 0} → (A → Reader T K B) → Verdict T K → A → List T → Outcome T K B → Type 0
ComesTo g (Fine c) a r o = o ≡ g a c r
ComesTo g (Over j p) a r o = o ≡ Refused (TooLarge j) p

-- a loop begins behind what was read
pub loop_begins : {T K A B : Type 0} (g : A → Reader T K B) (v : Verdict T K) (a : A) (r : List T) (o : Outcome T K A) → Meets v a r o → ComesTo g v a r (and_then o g)
loop_begins g (Fine c) a r o x = ap (λ o. and_then o g) x
loop_begins g (Over j p) a r o x = ap (λ o. and_then o g) x

come_on : {T K A B : Type 0} (g : A → Reader T K B) (b : A) (r : List T) (o : Outcome T K B) (i : Outcome T K A) (v : Verdict T K) → o ≡ and_then i g → Meets v b r i → ComesTo g v b r o
come_on g b r o i (Fine c) e x = e ∙ ap (λ i. and_then i g) x
come_on g b r o i (Over j p) e x = e ∙ ap (λ i. and_then i g) x

module _ {T K A B : Type 0} (k : K) (Z : A → List T → B → List T → Type 0) (next : A → Option T → Next T K A B) (keeps : LoopKeeps Z next) where
  -- one more turn
  pub loop_goes_on : (v : Verdict T K) (a : A) (x : T) (m : List T) (o : Outcome T K B) (p : Reader T K A) (w : ℕ → Verdict T K) (b : A) (r : List T) →
      ComesTo (loop k next) v a (x ∷ m) o → next a (Some x) ≡ More p → ((c : ℕ) → Meets (w c) b r (p c m)) → ComesTo (loop k next) (and_fine v w) b r o
  loop_goes_on (Fine c) a x m o p w b r l is y = come_on (loop k next) b r o (p c m) (w c) (l ∙ loop_more k Z next keeps a c x m p is) (y c)
  loop_goes_on (Over j q) a x m o p w b r l is y = l

  -- one more turn, at a token that counts
  pub loop_goes_on_counted : (v : Verdict T K) (a : A) (x : T) (m : List T) (o : Outcome T K B) (j : K) (most : ℕ) (p : Reader T K A) (w : ℕ → Verdict T K) (b : A) (r : List T) →
      ComesTo (loop k next) v a (x ∷ m) o → next a (Some x) ≡ Counts j most p → ((c : ℕ) → Meets (w c) b r (p c m)) →
      ComesTo (loop k next) (and_fine v (λ c. counts j most c (x ∷ m) w)) b r o
  loop_goes_on_counted (Fine c) a x m o j most p w b r l is y = by (nat_lt c most) (l ∙ loop_counts k Z next keeps a c x m j most p is)
    where
      by : (d : Bool) → o ≡ cond d ((p >>= loop k next) (c + 1) m) (Refused (TooLarge j) (x ∷ m)) → ComesTo (loop k next) (cond d (w (c + 1)) (Over j (x ∷ m))) b r o
      by true e = come_on (loop k next) b r o (p (c + 1) m) (w (c + 1)) e (y (c + 1))
      by false e = e
  loop_goes_on_counted (Over i q) a x m o j most p w b r l is y = l

  -- a loop that ends here
  pub loop_stops : (v : Verdict T K) (a : A) (r : List T) (o : Outcome T K B) (b : B) → next a (head r) ≡ Ends (pure b) → ComesTo (loop k next) v a r o → Meets v b r o
  loop_stops (Fine c) a r o b is l = l ∙ loop_ends k Z next keeps a c r (pure b) is
  loop_stops (Over j p) a r o b is l = l

  -- a loop that ends here, and what it reads then
  pub loop_stops_with : (v : Verdict T K) (a : A) (r : List T) (o : Outcome T K B) (q : Reader T K B) (w : ℕ → Verdict T K) (b : B) (t : List T) →
      next a (head r) ≡ Ends q → ComesTo (loop k next) v a r o → ((c : ℕ) → Meets (w c) b t (q c r)) → Meets (and_fine v w) b t o
  loop_stops_with (Fine c) a r o q w b t is l y = on (w c) (y c)
    where
      on : (v : Verdict T K) → Meets v b t (q c r) → Meets v b t o
      on (Fine n) z = l ∙ loop_ends k Z next keeps a c r q is ∙ z
      on (Over j p) z = l ∙ loop_ends k Z next keeps a c r q is ∙ z
  loop_stops_with (Over j p) a r o q w b t is l y = l
