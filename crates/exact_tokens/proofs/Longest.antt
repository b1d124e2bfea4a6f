-- The longest prefix that spells a token.
use Rattle.std.proofs.Common.{◌≡◌, ◌<◌, ◌≤◌, ℕ, suc, zero, List, ◌∷◌, length, take, arith, subst, ap, ◌∙◌, Option, Some, None, inl, inr}
use Rattle.std.proofs.lemmas.Bool.{cases_lt}
use Rattle.exact_tokens.specs.Tokens.{or_shorter, or_all, longest, first_token}

module _ {T : Type 0} (spelled_by : List ℕ → Option T) (b : ℕ) (bs : List ℕ) where
  -- what the first byte and so many more spell
  abbrev pub spelled : ℕ → Option T
  spelled m = spelled_by (b ∷ take m bs)

  here : (k n : ℕ) (x : T) → n ≡ k → spelled n ≡ Some x → longest spelled_by (suc k) (b ∷ bs) ≡ Some (x, suc n)
  here k n x same is = subst (λ j. longest spelled_by (suc j) (b ∷ bs) ≡ Some (x, suc n)) same (ap (λ o. or_shorter (suc n) o (longest spelled_by n (b ∷ bs))) is)

  pub found : (n : ℕ) (x : T) → spelled n ≡ Some x → ((m : ℕ) → n < m → m ≤ length bs → spelled m ≡ None)
      → (k : ℕ) → n ≤ k → k ≤ length bs → longest spelled_by (suc k) (b ∷ bs) ≡ Some (x, suc n)
  found n x is none zero low high = here zero n x (omega arith) is
  found n x is none (suc k) low high = elim (cases_lt n (suc k)) [
    | inl less ↦ ap (λ o. or_shorter (suc (suc k)) o (longest spelled_by (suc k) (b ∷ bs))) (none (suc k) less high) ∙ found n x is none k (omega arith) (omega arith)
    | inr same ↦ here (suc k) n x (omega arith) is
  ]

  pub nothing : ((m : ℕ) → m ≤ length bs → spelled m ≡ None) → (k : ℕ) → k ≤ length bs → longest spelled_by (suc k) (b ∷ bs) ≡ None
  nothing none zero high = ap (λ o. or_shorter 1 o None) (none zero high)
  nothing none (suc k) high = ap (λ o. or_shorter (suc (suc k)) o (longest spelled_by (suc k) (b ∷ bs))) (none (suc k) high) ∙ nothing none k (omega arith)

module _ {T : Type 0} (spelled_by : List ℕ → Option T) (bad : T) (b : ℕ) (bs : List ℕ) where
  -- the token of the longest prefix
  pub first_found : (n : ℕ) (x : T) → n ≤ length bs → spelled spelled_by b bs n ≡ Some x → ((m : ℕ) → n < m → m ≤ length bs → spelled spelled_by b bs m ≡ None) → first_token spelled_by bad (b ∷ bs) ≡ (x, suc n)
  first_found n x fits is none = ap (or_all bad (b ∷ bs)) (found spelled_by b bs n x is none (length bs) fits (omega arith))

  -- no prefix spells a token
  pub first_bad : ((m : ℕ) → m ≤ length bs → spelled spelled_by b bs m ≡ None) → first_token spelled_by bad (b ∷ bs) ≡ (bad, suc (length bs))
  first_bad none = ap (or_all bad (b ∷ bs)) (nothing spelled_by b bs none (length bs) (omega arith))
