-- A reading that keeps to a relation keeps at a token to another one, if that is implied at this token.
use Rattle.std.proofs.Common.{◌≡◌, ℕ, List, [], ◌∷◌, ◌++◌, sym, subst}
use Rattle.exact_parse.specs.Steps.{head, Cause, Unexpected, TooLarge, Outcome, Read, Refused, Reader}
use Rattle.exact_parse.specs.Keeps.{Goes, Prefix, FitsRead, FitsRefused, Fits}

module _ {T K A : Type 0} (X Z : List T → A → List T → Type 0) (p : Reader T K A) (x : T) (short : Goes Z []) (lift : (s r : List T) (a : A) → X (x ∷ s) a r → Z (x ∷ s) a r)
    (never : (s : List T) (a : A) → Z (x ∷ s) a (x ∷ s) → ⊥) where
  -- the same for the first token of a list that begins with this one
  lifted : (y : T) → x ≡ y → (s r : List T) (a : A) → X (y ∷ s) a r → Z (y ∷ s) a r
  lifted y e s r a h = subst (λ y. Z (y ∷ s) a r) e (lift s r a (subst (λ y. X (y ∷ s) a r) (sym e) h))

  lifted_goes : (y : T) → x ≡ y → (w : List T) → Goes X (y ∷ w) → Goes Z (y ∷ w)
  lifted_goes y e w g = record { more = g.more; tree = g.tree; spells = λ z. lifted y e (w ++ (g.more ++ z)) z g.tree (g.spells z) }

  read_at : (c : ℕ) (s : List T) (a : A) (c' : ℕ) (s' w : List T) → x ∷ s ≡ w ++ s' → ((z : List T) → X (w ++ z) a z) →
      ((z : List T) → head z ≡ head s' → p c (w ++ z) ≡ Read a c' z) → FitsRead Z p c (x ∷ s) a c' s'
  read_at c s a c' s' [] split spells same = absurd (never s a (lift s (x ∷ s) a (spells (x ∷ s))))
  read_at c s a c' s' (y ∷ w) split spells same =
      let e : x ≡ y = cc in record { taken = y ∷ w; split = split; spells = λ z. lifted y e (w ++ z) z a (spells z); same = same }

  goes_at : (k : Cause K) (s s' w : List T) → x ∷ s ≡ w ++ s' → Prefix X k w s' → Prefix Z k w s'
  goes_at (Unexpected k) s s' [] split g = short
  goes_at (Unexpected k) s s' (y ∷ w) split g = let e : x ≡ y = cc in lifted_goes y e w g
  goes_at (TooLarge k) s [] w split g = absurd g
  goes_at (TooLarge k) s (y ∷ s') [] split g = let e : x ≡ y = cc in lifted_goes y e [] g
  goes_at (TooLarge k) s (y ∷ s') (v ∷ w) split g = let e : x ≡ v = cc in lifted_goes v e (w ++ y ∷ []) g

  pub head_fits : (c : ℕ) (s : List T) (o : Outcome T K A) → Fits X p c (x ∷ s) o → Fits Z p c (x ∷ s) o
  head_fits c s (Read a c' s') u = read_at c s a c' s' u.taken u.split u.spells u.same
  head_fits c s (Refused k s') u = record { taken = u.taken; split = u.split; goes = goes_at k s s' u.taken u.split u.goes; same = u.same }
