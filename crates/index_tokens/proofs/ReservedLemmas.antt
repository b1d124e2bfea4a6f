-- A word is found in a list whichever of the two is compared with the other.
use Rattle.std.proofs.Common.{◌≡◌, ℕ, List, [], ◌∷◌, Bool, true, false, refl, sym, ap, ◌∙◌}
use Rattle.std.specs.List.{list_any}
use Rattle.std.specs.Str.{bytes_eq}
use Rattle.std.proofs.lemmas.Slice.Eq.{bytes_eq-Decides}
use Rattle.std.specs.Prelude.{◌||◌}

swapped : (a b : List ℕ) (t : Bool) → bytes_eq a b ≡ t → bytes_eq b a ≡ t
swapped a b true e = (bytes_eq-Decides b a).1 (sym ((bytes_eq-Decides a b).0 e))
swapped a b false e = no (bytes_eq b a) refl
  where
    no : (t : Bool) → bytes_eq b a ≡ t → bytes_eq b a ≡ false
    no true f = let g = (bytes_eq-Decides a b).1 (sym ((bytes_eq-Decides b a).0 f)) in cc
    no false f = f

pub found_either_way : (word : List ℕ) (words : List (List ℕ)) → list_any (λ w. bytes_eq w word) words ≡ list_any (bytes_eq word) words
found_either_way word [] = refl
found_either_way word (w ∷ words) =
    ap (λ t. bytes_eq w word || t) (found_either_way word words)
    ∙ ap (λ t. t || list_any (bytes_eq word) words) (sym (swapped w word (bytes_eq w word) refl))
