-- What one turn of a loop reads.
use Rattle.std.proofs.Common.{◌≡◌, ℕ, ◌+◌, ◌<◌, ◌≤◌, Bool, true, false, nat_lt, List, Option, refl, ◌∙◌, ap, arith}
use Rattle.std.proofs.lemmas.Bool.{ltb-true, lt-ltb}
use Rattle.exact_parse.specs.Steps.{head, tail, TooLarge, Refused, Reader, and_then, ◌>>=◌, ◌>>◌, skip, within, Next, More, Counts, turn, loop}
use Rattle.exact_parse.specs.Loops.{LoopKeeps}
use Rattle.exact_parse.proofs.Loops.{loop_turn}

not_below : (c most : ℕ) → most ≤ c → nat_lt c most ≡ false
not_below c most h = by (nat_lt c most) refl
  where
    by : (d : Bool) → nat_lt c most ≡ d → nat_lt c most ≡ false
    by false e = e
    by true e = let lt : c < most = ltb-true c most e in absurd (omega (arith, lt, h))

module _ {T K A B : Type 0} (k : K) (Z : A → List T → B → List T → Type 0) (next : A → Option T → Next T K A B) (keeps : LoopKeeps Z next) where
  turned : (a : A) (c : ℕ) (s : List T) (o : Next T K A B) → next a (head s) ≡ o → loop k next a c s ≡ turn k true (loop k next) o c s
  turned a c s o is = loop_turn k Z next keeps a c s ∙ ap (λ o. turn k true (loop k next) o c s) is

  pub loop_full : (a : A) (c : ℕ) (s : List T) (j : K) (most : ℕ) (p : Reader T K A) → next a (head s) ≡ Counts j most p → most ≤ c → loop k next a c s ≡ Refused (TooLarge j) s
  loop_full a c s j most p is h = turned a c s (Counts j most p) is ∙ ap (λ d. within j d (within k true (skip >> (p >>= loop k next))) (c + 1) s) (not_below c most h)

  pub loop_counted : (a : A) (c : ℕ) (s : List T) (j : K) (most : ℕ) (p : Reader T K A) → next a (head s) ≡ Counts j most p → c < most → loop k next a c s ≡ and_then (p (c + 1) (tail s)) (loop k next)
  loop_counted a c s j most p is h = turned a c s (Counts j most p) is ∙ ap (λ d. within j d (within k true (skip >> (p >>= loop k next))) (c + 1) s) (lt-ltb c most h)

  pub loop_passed : (a : A) (c : ℕ) (s : List T) (p : Reader T K A) → next a (head s) ≡ More p → loop k next a c s ≡ and_then (p c (tail s)) (loop k next)
  loop_passed a c s p is = turned a c s (More p) is
