-- The tokens from a place on, token by token.
use Rattle.std.proofs.Common.{◌≡◌, ◌<◌, ◌≤◌, ◌+◌, ◌-◌, ℕ, suc, zero, List, [], ◌∷◌, length, drop, arith, refl, sym, subst, ap, ◌∙◌, Option, Some, None, true, false}
use Rattle.std.proofs.lemmas.Grind.{common_steps}
use Rattle.exact_tokens.specs.Bytes.{is_blank}
use Rattle.exact_tokens.specs.Tokens.{or_shorter, or_all, longest, first_token, tokens_from}

pub blank_ascii : (b : ℕ) → is_blank b ≡ true → b < 128
blank_ascii b h = grind (arith, common_steps)

-- HOW MANY BYTES THE FIRST TOKEN HAS

abbrev Within : {T : Type 0} → ℕ → Option (T × ℕ) → Type 0
Within n None = Unit {0}
Within n (Some found) = (0 < found.1) × (found.1 ≤ n)

wider : {T : Type 0} (n : ℕ) (o : Option (T × ℕ)) → Within n o → Within (suc n) o
wider n None h = tt
wider n (Some found) h = (h.0, omega (arith, h.1))

within_by : {T : Type 0} (n : ℕ) (o : Option T) (shorter : Option (T × ℕ)) → Within n shorter → Within (suc n) (or_shorter (suc n) o shorter)
within_by n (Some x) shorter h = (omega arith, omega arith)
within_by n None shorter h = wider n shorter h

module _ {T : Type 0} (spelled_by : List ℕ → Option T) (bad : T) where
  longest_within : (n : ℕ) (s : List ℕ) → Within n (longest spelled_by n s)
  longest_within zero s = tt
  longest_within (suc n) s = within_by n _ (longest spelled_by n s) (longest_within n s)

  first_by : (b : ℕ) (bs : List ℕ) (o : Option (T × ℕ)) → Within (length (b ∷ bs)) o → (0 < (or_all bad (b ∷ bs) o).1) × ((or_all bad (b ∷ bs) o).1 ≤ length (b ∷ bs))
  first_by b bs (Some found) h = h
  first_by b bs None h = (omega arith, omega arith)

  first_within : (b : ℕ) (bs : List ℕ) → (0 < (first_token spelled_by bad (b ∷ bs)).1) × ((first_token spelled_by bad (b ∷ bs)).1 ≤ length (b ∷ bs))
  first_within b bs = first_by b bs (longest spelled_by (length (b ∷ bs)) (b ∷ bs)) (longest_within (length (b ∷ bs)) (b ∷ bs))

  pub has_bytes : (s bs : List ℕ) (b n : ℕ) (x : T) → s ≡ b ∷ bs → (x, n) ≡ first_token spelled_by bad s → 0 < n
  has_bytes s bs b n x is e = subst (λ f. 0 < f.1) (sym (e ∙ ap (first_token spelled_by bad) is)) (first_within b bs).0

  pub fits : (s bs : List ℕ) (b n : ℕ) (x : T) → s ≡ b ∷ bs → (x, n) ≡ first_token spelled_by bad s → n ≤ length s
  fits s bs b n x is e = subst (λ z. n ≤ length z) (sym is) (subst (λ f. f.1 ≤ length (b ∷ bs)) (sym (e ∙ ap (first_token spelled_by bad) is)) (first_within b bs).1)

-- THE STEPS

module _ {T P : Type 0} (spelled_by : List ℕ → Option T) (bad : T) (placed : ℕ → T → List ℕ → P) (last : T) where
  passed : (n : ℕ) (s : List ℕ) (place : ℕ) → n ≤ length s → tokens_from spelled_by bad placed last place n s ≡ tokens_from spelled_by bad placed last (place + n) 0 (drop n s)
  passed zero s place h = ap (λ k. tokens_from spelled_by bad placed last k 0 s) (omega arith)
  passed (suc n) [] place h = absurd (omega arith)
  passed (suc n) (b ∷ bs) place h = passed n bs (place + 1) (omega arith) ∙ ap (λ k. tokens_from spelled_by bad placed last k 0 (drop n bs)) (omega arith)

  pub at_end : (s : List ℕ) (place : ℕ) → s ≡ [] → tokens_from spelled_by bad placed last place 0 s ≡ placed place last [] ∷ []
  at_end s place is = ap (tokens_from spelled_by bad placed last place 0) is

  pub at_blank : (s bs : List ℕ) (b place : ℕ) → s ≡ b ∷ bs → is_blank b ≡ true → tokens_from spelled_by bad placed last place 0 s ≡ tokens_from spelled_by bad placed last (place + 1) 0 bs
  at_blank s bs b place is blank = ap (tokens_from spelled_by bad placed last place 0) is ∙ rw blank refl

  behind_first : (b : ℕ) (bs : List ℕ) (place n : ℕ) → 0 < n → n ≤ length (b ∷ bs) → tokens_from spelled_by bad placed last (place + 1) (n - 1) bs ≡ tokens_from spelled_by bad placed last (place + n) 0 (drop n (b ∷ bs))
  behind_first b bs place zero h l = absurd (omega arith)
  behind_first b bs place (suc n) h l =
      let e : suc n - 1 ≡ n = omega arith in
      rw e (passed n bs (place + 1) (omega arith) ∙ ap (λ k. tokens_from spelled_by bad placed last k 0 (drop n bs)) (omega arith))

  pub at_token : (s bs : List ℕ) (b place n : ℕ) (x : T) → s ≡ b ∷ bs → is_blank b ≡ false → (x, n) ≡ first_token spelled_by bad s → tokens_from spelled_by bad placed last place 0 s ≡ placed place x (drop n s) ∷ tokens_from spelled_by bad placed last (place + n) 0 (drop n s)
  at_token s bs b place n x is blank e =
      let first : first_token spelled_by bad (b ∷ bs) ≡ (x, n) = sym (e ∙ ap (first_token spelled_by bad) is) in
      let small : n ≤ length (b ∷ bs) = subst (λ z. n ≤ length z) is (fits spelled_by bad s bs b n x is e) in
      let step : tokens_from spelled_by bad placed last place 0 (b ∷ bs) ≡ placed place (first_token spelled_by bad (b ∷ bs)).0 (drop (first_token spelled_by bad (b ∷ bs)).1 (b ∷ bs)) ∷ tokens_from spelled_by bad placed last (place + 1) ((first_token spelled_by bad (b ∷ bs)).1 - 1) bs = rw blank refl in
      ap (tokens_from spelled_by bad placed last place 0) is ∙ step ∙ ap (λ f. placed place f.0 (drop f.1 (b ∷ bs)) ∷ tokens_from spelled_by bad placed last (place + 1) (f.1 - 1) bs) first
      ∙ ap (λ z. placed place x (drop n (b ∷ bs)) ∷ z) (behind_first b bs place n (has_bytes spelled_by bad s bs b n x is e) small)
      ∙ ap (λ z. placed place x (drop n z) ∷ tokens_from spelled_by bad placed last (place + n) 0 (drop n z)) (sym is)
