-- Each token of the list is the longest that the bytes allow.
use Rattle.std.proofs.Common.{◌≡◌, ◌<◌, ◌≤◌, ◌+◌, ◌∷◌, ℕ, suc, zero, List, [], length, take, drop, arith, refl, sym, subst, Option, Some, None, Bool, true, false, length-drop, inl, inr}
use Rattle.std.proofs.lemmas.Bool.{cases_eq}
use Rattle.exact_tokens.specs.Bytes.{is_blank}
use Rattle.exact_tokens.specs.Tokens.{or_shorter, or_all, longest, first_token, tokens_from, IsFirst, spelled, bad, AreTokens, ends, blank, token}
use Rattle.exact_tokens.proofs.TurnLemmas.{has_bytes, at_blank, at_token}

module _ {T : Type 0} (spelled_by : List ℕ → Option T) (bad_token : T) where
  -- no prefix of more than n and at most k bytes spells a token
  abbrev NoneBetween : ℕ → ℕ → List ℕ → Type 0
  NoneBetween n k s = (m : ℕ) → n < m → m ≤ k → spelled_by (take m s) ≡ None

  abbrev Found : ℕ → List ℕ → Option (T × ℕ) → Type 0
  Found k s None = NoneBetween 0 k s
  Found k s (Some found) = (found.1 ≤ k) × (spelled_by (take found.1 s) ≡ Some found.0) × NoneBetween found.1 k s

  wider : (n k : ℕ) (s : List ℕ) → spelled_by (take (suc k) s) ≡ None → NoneBetween n k s → NoneBetween n (suc k) s
  wider n k s is h m low high = elim (cases_eq m (suc k)) [
    | inl same ↦ subst (λ z. spelled_by (take z s) ≡ None) (sym same) is
    | inr other ↦ h m low (omega arith)
  ]

  found_shorter : (k : ℕ) (s : List ℕ) (o : Option (T × ℕ)) → spelled_by (take (suc k) s) ≡ None → Found k s o → Found (suc k) s o
  found_shorter k s None is h = wider 0 k s is h
  found_shorter k s (Some found) is h = (omega (arith, h.0), h.1, wider found.1 k s is h.2)

  found_by : (k : ℕ) (s : List ℕ) (o : Option T) (shorter : Option (T × ℕ)) → spelled_by (take (suc k) s) ≡ o → Found k s shorter → Found (suc k) s (or_shorter (suc k) o shorter)
  found_by k s (Some x) shorter is h = (omega arith, is, λ m low high. absurd (omega arith))
  found_by k s None shorter is h = found_shorter k s shorter is h

  longest_found : (k : ℕ) (s : List ℕ) → Found k s (longest spelled_by k s)
  longest_found zero s = λ m low high. absurd (omega arith)
  longest_found (suc k) s = found_by k s (spelled_by (take (suc k) s)) (longest spelled_by k s) refl (longest_found k s)

  first_by : (s : List ℕ) (o : Option (T × ℕ)) → Found (length s) s o → IsFirst spelled_by bad_token s (or_all bad_token s o).0 (or_all bad_token s o).1
  first_by s None h = bad h refl
  first_by s (Some found) h = spelled h.0 h.1 h.2

  pub is_first : (s : List ℕ) → IsFirst spelled_by bad_token s (first_token spelled_by bad_token s).0 (first_token spelled_by bad_token s).1
  is_first s = first_by s (longest spelled_by (length s) s) (longest_found (length s) s)

module _ {T P : Type 0} (spelled_by : List ℕ → Option T) (bad_token : T) (placed : ℕ → T → List ℕ → P) (last : T) where
  turn_by : (blanks : Bool) (b place : ℕ) (bs : List ℕ) → is_blank b ≡ blanks
      → ((n place : ℕ) → 0 < n → AreTokens spelled_by bad_token placed last place (drop n (b ∷ bs)) (tokens_from spelled_by bad_token placed last place 0 (drop n (b ∷ bs)))) → AreTokens spelled_by bad_token placed last place (b ∷ bs) (tokens_from spelled_by bad_token placed last place 0 (b ∷ bs))
  turn_by true b place bs is behind = rw (at_blank spelled_by bad_token placed last (b ∷ bs) bs b place refl is) (blank is (behind 1 (place + 1) (omega arith)))
  turn_by false b place bs is behind =
      let x = (first_token spelled_by bad_token (b ∷ bs)).0 in
      let n = (first_token spelled_by bad_token (b ∷ bs)).1 in
      rw (at_token spelled_by bad_token placed last (b ∷ bs) bs b place n x refl is refl) (token is (is_first spelled_by bad_token (b ∷ bs)) (behind n (place + n) (has_bytes spelled_by bad_token (b ∷ bs) bs b n x refl refl)))

  are_tokens : (k : ℕ) (s : List ℕ) (place : ℕ) → length s ≤ k → AreTokens spelled_by bad_token placed last place s (tokens_from spelled_by bad_token placed last place 0 s)
  are_tokens k [] place h = ends
  are_tokens zero (b ∷ bs) place h = absurd (omega arith)
  are_tokens (suc k) (b ∷ bs) place h = turn_by (is_blank b) b place bs refl (λ n place some. are_tokens k (drop n (b ∷ bs)) place (omega (arith, length-drop n (b ∷ bs))))

  pub all_longest : (s : List ℕ) (tokens : List P) → tokens ≡ tokens_from spelled_by bad_token placed last 0 0 s → AreTokens spelled_by bad_token placed last 0 s tokens
  all_longest s tokens is = subst (AreTokens spelled_by bad_token placed last 0 s) (sym is) (are_tokens (length s) s 0 (omega arith))
