-- A reading that keeps to a relation: what it reads is spelled so, if it stops something goes on, and neither depends on a later token.
use Rattle.std.specs.Prelude.{◌≡◌, ℕ, List, [], ◌∷◌, ◌++◌}
use Rattle.exact_parse.specs.Steps.{head, Cause, Unexpected, TooLarge, Outcome, Read, Refused, Reader}

-- Some tokens go on from these to a spelling, whatever follows.
pub record Goes {T A : Type 0} (X : List T → A → List T → Type 0) (w : List T) : Type 0 where
  pub more : List T
  pub tree : A
  pub spells : (z : List T) → X (w ++ (more ++ z)) tree z

-- what holds of the tokens before a refused one; a token that is too large goes on too
abbrev pub Prefix : {T K A : Type 0} → (List T → A → List T → Type 0) → Cause K → List T → List T → Type 0
Prefix X (Unexpected k) w s = Goes X w
Prefix X (TooLarge k) w [] = ⊥
Prefix X (TooLarge k) w (x ∷ s) = Goes X (w ++ x ∷ [])

pub record FitsRead {T K A : Type 0} (X : List T → A → List T → Type 0) (f : Reader T K A) (c : ℕ) (s : List T) (a : A) (c' : ℕ) (s' : List T) : Type 0 where
  pub taken : List T
  pub split : s ≡ taken ++ s'
  pub spells : (z : List T) → X (taken ++ z) a z
  pub same : (z : List T) → head z ≡ head s' → f c (taken ++ z) ≡ Read a c' z

pub record FitsRefused {T K A : Type 0} (X : List T → A → List T → Type 0) (f : Reader T K A) (c : ℕ) (s : List T) (k : Cause K) (s' : List T) : Type 0 where
  pub taken : List T
  pub split : s ≡ taken ++ s'
  pub goes : Prefix X k taken s'
  pub same : (z : List T) → head z ≡ head s' → f c (taken ++ z) ≡ Refused k z

abbrev pub Fits : {T K A : Type 0} → (List T → A → List T → Type 0) → Reader T K A → ℕ → List T → Outcome T K A → Type 0
Fits X f c s (Read a c' s') = FitsRead X f c s a c' s'
Fits X f c s (Refused k s') = FitsRefused X f c s k s'

pub record Keeps {T K A : Type 0} (X : List T → A → List T → Type 0) (f : Reader T K A) : Type 0 where
  -- some spelling, from nothing on
  pub short : Goes X []
  pub fits : (c : ℕ) (s : List T) → Fits X f c s (f c s)

-- what is read behind `a`, so that both together are spelled
abbrev pub Then : {T A B : Type 0} → (List T → A → List T → Type 0) → (List T → B → List T → Type 0) → A → List T → B → List T → Type 0
Then {T = T} X Z a m b r = (s : List T) → X s a m → Z s b r
