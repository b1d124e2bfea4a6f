-- The marks that bytes begin with.
use Rattle.std.proofs.Common.{◌≡◌, ◌<◌, ℕ, List, [], ◌∷◌, length, drop, IsUtf8, Option, Some, None, refl, sym, subst, ap, ◌∙◌}
use Rattle.exact_tokens.specs.Tokens.{or_shorter, or_all}
use Rattle.exact_tokens.specs.Passes.{mark_at}
use Rattle.exact_tokens.proofs.Seams.{behind_ascii, behind_all}

module _ {T : Type 0} (bad : T) (single : ℕ → Option T) (double : ℕ → ℕ → Option T) where
  pub none_mark : (s : List ℕ) → s ≡ [] → or_all bad s (mark_at single double s) ≡ (bad, 0)
  none_mark s is = ap (λ z. or_all bad z (mark_at single double z)) is

  pub double_mark : (s more : List ℕ) (a b : ℕ) (x : T) → s ≡ a ∷ more → (rest : List ℕ) → more ≡ b ∷ rest → double a b ≡ Some x → or_all bad s (mark_at single double s) ≡ (x, 2)
  double_mark s more a b x is rest goes found =
      ap (λ z. or_all bad z (mark_at single double z)) (is ∙ ap (λ z. a ∷ z) goes) ∙ ap (λ o. or_all bad (a ∷ b ∷ rest) (or_shorter 2 o (or_shorter 1 (single a) None))) found

  -- no mark of two bytes
  abbrev pub no_double : (a : ℕ) (more : List ℕ) → Type 0
  no_double a more = (b : ℕ) (rest : List ℕ) → more ≡ b ∷ rest → double a b ≡ None

  pub one_mark : (a : ℕ) (more : List ℕ) → no_double a more → mark_at single double (a ∷ more) ≡ or_shorter 1 (single a) None
  one_mark a [] lone = refl
  one_mark a (b ∷ rest) lone = ap (λ o. or_shorter 2 o (or_shorter 1 (single a) None)) (lone b rest refl)

  pub single_mark : (s more : List ℕ) (a : ℕ) (x : T) → s ≡ a ∷ more → no_double a more → single a ≡ Some x → or_all bad s (mark_at single double s) ≡ (x, 1)
  single_mark s more a x is lone found = ap (λ z. or_all bad z (mark_at single double z)) is ∙ ap (or_all bad (a ∷ more)) (one_mark a more lone ∙ ap (λ o. or_shorter 1 o None) found)

  pub no_mark : (s more : List ℕ) (a : ℕ) → s ≡ a ∷ more → no_double a more → single a ≡ None → or_all bad s (mark_at single double s) ≡ (bad, length s)
  no_mark s more a is lone found = ap (λ z. or_all bad z (mark_at single double z)) is ∙ ap (or_all bad (a ∷ more)) (one_mark a more lone ∙ ap (λ o. or_shorter 1 o None) found) ∙ ap (λ z. (bad, length z)) (sym is)

pub behind_one : (s more : List ℕ) (a : ℕ) → s ≡ a ∷ more → a < 128 → IsUtf8 s → IsUtf8 (drop 1 s)
behind_one s more a is small u = subst (λ z. IsUtf8 (drop 1 z)) (sym is) (behind_ascii a more small (subst IsUtf8 is u))

pub behind_two : (s more rest : List ℕ) (a b : ℕ) → s ≡ a ∷ more → more ≡ b ∷ rest → a < 128 → b < 128 → IsUtf8 s → IsUtf8 (drop 2 s)
behind_two s more rest a b is goes small less u =
    let whole : s ≡ a ∷ b ∷ rest = is ∙ ap (λ z. a ∷ z) goes in
    subst (λ z. IsUtf8 (drop 2 z)) (sym whole) (behind_ascii b rest less (behind_ascii a (b ∷ rest) small (subst IsUtf8 whole u)))

pub ruleset marks = (none_mark, double_mark, single_mark, no_mark, behind_one, behind_two, behind_all)
