-- A page of some rows.
use Rattle.std.proofs.Common.{◌≡◌, ℕ, zero, suc, ◌-◌, ◌<◌, List, [], ◌∷◌, ◌++◌, take, drop, sym, ap, ◌∙◌, append_assoc, arith}
use Rattle.spec_data.specs.Rows.{Row}

-- a row more
pub taken : (x : Row) (more found : List Row) (skip want : ℕ) → skip ≡ 0 → 0 < want → found ++ take want (drop skip (x ∷ more)) ≡ (found ++ x ∷ []) ++ take (want - 1) (drop skip more)
taken x more found skip want none some =
    ap (λ n. found ++ take want (drop n (x ∷ more))) none
    ∙ ap (λ l. found ++ l) (one want some)
    ∙ sym (append_assoc found (x ∷ []) (take (want - 1) more))
    ∙ ap (λ n. (found ++ x ∷ []) ++ take (want - 1) (drop n more)) (sym none)
  where
    one : (n : ℕ) → 0 < n → take n (x ∷ more) ≡ x ∷ take (n - 1) more
    one zero h = absurd (omega (arith, h))
    one (suc n) h = let e : n ≡ suc n - 1 = omega arith in ap (λ k. x ∷ take k more) e
