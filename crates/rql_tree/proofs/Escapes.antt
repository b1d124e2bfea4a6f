-- What stands between quotes, character by character.
use Rattle.std.proofs.Common.{◌≡◌, ◌≢◌, ℕ, suc, ◌<◌, ◌≤◌, List, [], ◌∷◌, ◌++◌, length, get_or, flat_map, encode_utf8, inl, inr, refl, sym, ap₂, arith, append-nil, ne_eqb}
use Rattle.std.proofs.lemmas.Bool.{cases_lt}
use Rattle.std.proofs.lemmas.Str.{encode_ascii, inside_one}
use Rattle.rql_tree.specs.Printed.{escaped}

same_byte : (b : ℕ) → b ≢ 39 → b ≢ 92 → escaped b ≡ b ∷ []
same_byte b quote slash = rw (ne_eqb b 39 quote) (rw (ne_eqb b 92 slash) refl)

all_high : (bs : List ℕ) → ((k : ℕ) → k < length bs → 128 ≤ get_or bs k 0) → flat_map escaped bs ≡ bs
all_high [] h = refl
all_high (b ∷ bs) h =
    let high : 128 ≤ b = h 0 (omega arith) in
    ap₂ (λ (x y : List ℕ). x ++ y) (same_byte b (λ e. omega arith) (λ e. omega arith)) (all_high bs (λ k below. h (suc k) (omega arith)))

-- a character that has no escape is written as it is
pub unescaped : (c : ℕ) → c ≢ 39 → c ≢ 92 → flat_map escaped (encode_utf8 c) ≡ encode_utf8 c
unescaped c quote slash = elim (cases_lt c 128) [
  | inl small ↦ rw (encode_ascii c small, append-nil) (same_byte c quote slash)
  | inr big ↦ all_high (encode_utf8 c) (λ k below. elim (cases_lt (get_or (encode_utf8 c) k 0) 128) [
    | inl low ↦ absurd (omega (arith, inside_one c [] (encode_utf8 c) k (sym (append-nil _)) below low))
    | inr h ↦ h
  ])
]
