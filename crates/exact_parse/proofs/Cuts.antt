-- Two ways to cut one list.
use Rattle.std.proofs.Common.{◌≡◌, List, [], ◌∷◌, ◌++◌, length, refl, sym, subst, length-append, arith}

pub data Cut {T : Type 0} : List T → List T → List T → List T → Type 0 where
  same : {w p : List T} → Cut w p w p
  -- the second is cut earlier
  earlier : {p v : List T} (x : T) (u : List T) → Cut (v ++ x ∷ u) p v (x ∷ (u ++ p))
  -- the second is cut later
  later : {w q : List T} (x : T) (u : List T) → Cut w (x ∷ (u ++ q)) (w ++ x ∷ u) q

cut_more : {T : Type 0} (x : T) {w p v q : List T} → Cut w p v q → Cut (x ∷ w) p (x ∷ v) q
cut_more x same = same
cut_more x (earlier {v = v} y u) = earlier {v = x ∷ v} y u
cut_more x (later {w = w} y u) = later {w = x ∷ w} y u

pub cut : {T : Type 0} (w p v q : List T) → w ++ p ≡ v ++ q → Cut w p v q
cut [] p [] q e = subst (Cut [] p []) e same
cut [] p (y ∷ v) q e = subst (λ p. Cut [] p (y ∷ v) q) (sym e) (later {w = []} y v)
cut (x ∷ w) p [] q e = subst (λ q. Cut (x ∷ w) p [] q) e (earlier {v = []} x w)
cut (x ∷ w) p (y ∷ v) q e = let hd : x ≡ y = cc in let tl : w ++ p ≡ v ++ q = cc in subst (λ y. Cut (x ∷ w) p (y ∷ v) q) hd (cut_more x (cut w p v q tl))

pub cut_same : {T : Type 0} {w m v q : List T} → Cut w m v q → length q ≡ length m → w ≡ v
cut_same same e = refl
cut_same (earlier {p = p} x u) e = absurd (omega (arith, length-append u p, e))
cut_same (later {q = q} x u) e = absurd (omega (arith, length-append u q, e))
