-- The names of slots that have a replacement, in order.
use Rattle.std.proofs.Common.{◌≡◌, ℕ, ◌≤◌, ◌-◌, List, [], ◌∷◌, length, take, drop, get_or, map, Bool, true, false, cond, filter, sym, ap, ◌∙◌, arith}
use Rattle.std.specs.Ordering.{on}
use Rattle.std.proofs.lemmas.Grind.{common_steps}
use Rattle.spec_data.specs.Folding.{folded, key_cmp}
use Rattle.spec_query.specs.Sorting.{inserted, sorted}
use Rattle.spec_index.specs.World.{Slot}

pub first-and-more : (slots : List Slot) (a : Slot) → 1 ≤ length slots → a ≡ get_or slots 0 a → slots ≡ a ∷ take (length slots - 1) (drop 1 slots)
first-and-more [] a h is = absurd (omega arith)
first-and-more (x ∷ xs) a h is =
    let whole : xs ≡ take (length (x ∷ xs) - 1) (drop 1 (x ∷ xs)) = grind (arith, common_steps) in
    λ i. (sym is) i ∷ whole i

abbrev in_order : (Slot → Bool) → List Slot → List (List ℕ)
in_order p slots = sorted (on folded key_cmp) (map (λ (s : Slot). s.name) (filter p slots))

of_first : (p : Slot → Bool) (s : Slot) (more : List Slot) (b : Bool) → p s ≡ b → in_order p (s ∷ more) ≡ cond b (inserted (on folded key_cmp) s.name (in_order p more)) (in_order p more)
of_first p s more true is = ap (λ b. sorted (on folded key_cmp) (map (λ (t : Slot). t.name) (cond b (s ∷ filter p more) (filter p more)))) is
of_first p s more false is = ap (λ b. sorted (on folded key_cmp) (map (λ (t : Slot). t.name) (cond b (s ∷ filter p more) (filter p more)))) is

pub left_out : (p : Slot → Bool) (slots more : List Slot) (s : Slot) (names : List (List ℕ)) → slots ≡ s ∷ more → p s ≡ false → names ≡ in_order p more → names ≡ in_order p slots
left_out p slots more s names is none so_far = so_far ∙ sym (of_first p s more false none) ∙ ap (in_order p) (sym is)

pub put_in : (p : Slot → Bool) (slots more : List Slot) (s : Slot) (names now : List (List ℕ)) → slots ≡ s ∷ more → p s ≡ true → names ≡ in_order p more → now ≡ inserted (on folded key_cmp) s.name names → now ≡ in_order p slots
put_in p slots more s names now is some so_far put = put ∙ ap (inserted (on folded key_cmp) s.name) so_far ∙ sym (of_first p s more true some) ∙ ap (in_order p) (sym is)
