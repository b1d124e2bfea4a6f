-- Where the first word ends.
use Rattle.std.proofs.Common.{◌≡◌, ◌<◌, ◌+◌, ℕ, List, [], ◌∷◌, length, Option, Some, None, take, drop, Bool, cond, not, arith, true, false, refl, ap, suc, ◌∙◌}
use Rattle.std.specs.Prelude.{◌==◌, if◌then◌else◌}
use Rattle.std.specs.List.{position_or_len, before_first, after_first}
use Rattle.spec_server.specs.Words.{before_space, after_space, both_parts, argument_and_rest}

abbrev first_space : List ℕ → ℕ
first_space s = position_or_len (λ b. b == 32) s

before_step : (t : Bool) (b n : ℕ) (s w : List ℕ) → w ≡ take n s → (if t then [] else b ∷ w) ≡ take (cond (not t) (1 + n) 0) (b ∷ s)
before_step true b n s w e = refl
before_step false b n s w e = let k : 1 + n ≡ suc n = omega arith in rw k (ap (λ z. b ∷ z) e)

pub before_space-first : (s : List ℕ) → before_space s ≡ before_first (λ b. b == 32) s
before_space-first [] = refl
before_space-first (b ∷ s) = before_step (b == 32) b (first_space s) s (before_space s) (before_space-first s)

none_step : (t : Bool) (n l : ℕ) (s : List ℕ) (after : Option (List ℕ)) → (n ≡ l → after ≡ None) → cond (not t) (1 + n) 0 ≡ suc l → (if t then Some s else after) ≡ None
none_step true n l s after f h = absurd (omega arith)
none_step false n l s after f h = f (omega arith)

pub after_space-none : (s : List ℕ) → first_space s ≡ length s → after_space s ≡ None
after_space-none [] h = refl
after_space-none (b ∷ s) h = none_step (b == 32) (first_space s) (length s) s (after_space s) (after_space-none s) h

some_step : (t : Bool) (b n l : ℕ) (s : List ℕ) (after : Option (List ℕ)) → (n < l → after ≡ Some (drop (n + 1) s)) → cond (not t) (1 + n) 0 < suc l
    → (if t then Some s else after) ≡ Some (drop (cond (not t) (1 + n) 0 + 1) (b ∷ s))
some_step true b n l s after f h = refl
some_step false b n l s after f h = let k : 1 + n + 1 ≡ suc (n + 1) = omega arith in rw k (f (omega arith))

pub after_space-some : (s : List ℕ) → first_space s < length s → after_space s ≡ Some (after_first (λ b. b == 32) s)
after_space-some [] h = absurd (omega arith)
after_space-some (b ∷ s) h = some_step (b == 32) b (first_space s) (length s) s (after_space s) (after_space-some s) h

pub ruleset splits = (before_space-first, after_space-none, after_space-some)

-- BOTH PARTS

pub no-rest : (text : List ℕ) → after_space text ≡ None → argument_and_rest text ≡ None
no-rest text h = ap (both_parts (before_space text)) h ∙ none (before_space text)
  where
    none : (word : List ℕ) → both_parts word None ≡ None
    none [] = refl
    none (b ∷ bs) = refl

pub empty-word : (text word rest : List ℕ) → before_space text ≡ word → after_space text ≡ Some rest → word ≡ [] → argument_and_rest text ≡ None
empty-word text word rest w r h = ap (λ x. both_parts x (after_space text)) (w ∙ h)

pub empty-rest : (text word rest : List ℕ) → before_space text ≡ word → after_space text ≡ Some rest → rest ≡ [] → argument_and_rest text ≡ None
empty-rest text word rest w r h = ap (both_parts (before_space text)) (r ∙ ap Some h) ∙ none (before_space text)
  where
    none : (word : List ℕ) → both_parts word (Some []) ≡ None
    none [] = refl
    none (b ∷ bs) = refl

pub both-parts : (text word rest : List ℕ) → before_space text ≡ word → after_space text ≡ Some rest → (word ≡ [] → ⊥) → (rest ≡ [] → ⊥) → argument_and_rest text ≡ Some (word, rest)
both-parts text word rest w r f g = ap (λ x. both_parts x (after_space text)) w ∙ ap (both_parts word) r ∙ some word rest f g
  where
    some : (word rest : List ℕ) → (word ≡ [] → ⊥) → (rest ≡ [] → ⊥) → both_parts word (Some rest) ≡ Some (word, rest)
    some [] rest f g = absurd (f refl)
    some (b ∷ bs) [] f g = absurd (g refl)
    some (b ∷ bs) (c ∷ cs) f g = refl

pub ruleset parts = (no-rest, empty-word, empty-rest, both-parts)
