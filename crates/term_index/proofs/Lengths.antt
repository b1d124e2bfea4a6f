-- How many ids have a value.
use Rattle.std.proofs.Common.{◌≡◌, ℕ, suc, ◌+◌, List, [], ◌∷◌, length, cond, is_some, refl, sym, ap, ◌∙◌, arith}
use Rattle.std.specs.FinMap.{from_entries, get-from_entries, len, len-empty, len-insert}
use Rattle.std.specs.Cmp.Lexicographic.{nat_list_cmp_total}
use Rattle.spec_data.specs.Folding.{key_cmp}
use Rattle.spec_data.specs.Scalars.{Scalar}
use Rattle.term_index.specs.Held.{AreApart, AreTerms, Pairs, Values, held}
use Rattle.term_index.specs.declared.key.Key.TheVariants as k

abbrev of_entries : List (List ℕ × Scalar) → Values
of_entries es = from_entries es

len_apart : (es : List (List ℕ × Scalar)) → AreApart es → len (of_entries es) ≡ length es
len_apart [] apart = len-empty key_cmp Scalar
len_apart (e ∷ es) apart =
    len-insert nat_list_cmp_total (of_entries es) e.0 e.1
    ∙ (ap (λ o. cond (is_some o) (len (of_entries es)) (len (of_entries es) + 1)) (get-from_entries nat_list_cmp_total es e.0 ∙ apart.0)
    ∙ more (len (of_entries es)) (length es) (len_apart es apart.1))
  where
    more : (m n : ℕ) → m ≡ n → m + 1 ≡ suc n
    more m n h = omega (arith, h)

pub held_length : (es : Pairs) → AreTerms es → length (held es) ≡ length es
held_length [] terms = refl
held_length ((k.At t, u) ∷ es) terms = ap suc (held_length es terms.1)
held_length ((k.Before v, u) ∷ es) terms = absurd terms.0
held_length ((k.After v, u) ∷ es) terms = absurd terms.0
held_length ((k.End, u) ∷ es) terms = absurd terms.0

-- as many as there are terms
pub len_held : (es : Pairs) → AreApart (held es) → AreTerms es → length es ≡ len (of_entries (held es))
len_held es apart terms = sym (len_apart (held es) apart ∙ held_length es terms)
