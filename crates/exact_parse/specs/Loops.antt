-- A loop whose turns keep to a relation.
use Rattle.std.specs.Prelude.{ℕ, List, [], ◌∷◌, Option, Some, None}
use Rattle.exact_parse.specs.Steps.{Next, Ends, More, Counts}
use Rattle.exact_parse.specs.Keeps.{Goes, Fits, Keeps}

-- A token and what is read behind it lead from `a` to `b`: what goes on from `b` goes on from `a` with them.
abbrev pub Link : {T A B : Type 0} → (A → List T → B → List T → Type 0) → A → T → List T → A → List T → Type 0
Link {T = T} {B = B} Z a x m b n = (d : B) (r : List T) → Z b n d r → Z a (x ∷ m) d r

-- what is done if no token is left
abbrev pub EndKeeps : {T K A B : Type 0} → (List T → B → List T → Type 0) → Next T K A B → Type 0
EndKeeps Z (Ends q) = (c : ℕ) → Fits Z q c [] (q c [])
EndKeeps Z (More p) = ⊥
EndKeeps Z (Counts k most p) = ⊥

-- what is done at a token
abbrev pub NextKeeps : {T K A B : Type 0} → (A → List T → B → List T → Type 0) → A → T → Next T K A B → Type 0
NextKeeps {T = T} Z a x (Ends q) = (c : ℕ) (s : List T) → Fits (Z a) q c (x ∷ s) (q c (x ∷ s))
NextKeeps Z a x (More p) = Keeps (Link Z a x) p
NextKeeps Z a x (Counts k most p) = Keeps (Link Z a x) p

-- `Z a` is what the loop reads from `a` on
pub record LoopKeeps {T K A B : Type 0} (Z : A → List T → B → List T → Type 0) (next : A → Option T → Next T K A B) : Type 0 where
  pub short : (a : A) → Goes (Z a) []
  pub none : (a : A) → EndKeeps (Z a) (next a None)
  pub some : (a : A) (x : T) → NextKeeps Z a x (next a (Some x))
