-- Lists that are made item by item.
use Rattle.std.proofs.Common.{◌≡◌, ℕ, ◌+◌, ◌<◌, List, [], ◌∷◌, ◌++◌, length, get_or, drop, append_assoc, map, sym, ap, ◌∙◌}
use Rattle.std.proofs.lemmas.List.{drop_more}

-- one item more
pub map_more : {A B C : Type 0} (f : A → B) (g : B → C) (xs : List A) (i : ℕ) (x : A) (done : List C) (c : C) → i < length xs → get_or xs i x ≡ x → c ≡ g (f x)
    → (done ++ c ∷ []) ++ map g (map f (drop (i + 1) xs)) ≡ done ++ map g (map f (drop i xs))
map_more f g xs i x done c lt at is =
    append_assoc done (c ∷ []) (map g (map f (drop (i + 1) xs)))
    ∙ (ap (λ z. done ++ z ∷ map g (map f (drop (i + 1) xs))) is
    ∙ ap (λ l. done ++ map g (map f l)) (sym (drop_more xs i x lt ∙ ap (λ z. z ∷ drop (i + 1) xs) at)))
