-- Texts that begin with the same bytes are ordered as what is left of them.
use Rattle.std.proofs.Common.{◌≡◌, ℕ, zero, suc, true, List, [], ◌∷◌, take, drop, get_or, Equal, nat_cmp, refl, sym, ap, ◌∙◌}
use Rattle.std.proofs.lemmas.Cmp.{nat_cmp_total, tied_itself}
use Rattle.std.proofs.lemmas.Slice.Eq.{bytes_eq-Decides}
use Rattle.std.specs.Char.{to_ascii_lowercase}
use Rattle.std.specs.Ordering.{ordering_then}
use Rattle.std.specs.Str.{bytes_eq}
use Rattle.spec_data.specs.Folding.{folded, key_cmp}

pub same_byte : (x y : ℕ) → x ≡ y → nat_cmp (to_ascii_lowercase x) (to_ascii_lowercase y) ≡ Equal
same_byte x y e = ap (λ z. nat_cmp (to_ascii_lowercase x) (to_ascii_lowercase z)) (sym e) ∙ tied_itself nat_cmp_total (to_ascii_lowercase x)

past_front : (n : ℕ) (xs ys : List ℕ) → take n xs ≡ take n ys → key_cmp (folded (drop n xs)) (folded (drop n ys)) ≡ key_cmp (folded xs) (folded ys)
past_front zero xs ys e = refl
past_front (suc n) [] [] e = refl
past_front (suc n) [] (y ∷ ys) e = cc
past_front (suc n) (x ∷ xs) [] e = cc
past_front (suc n) (x ∷ xs) (y ∷ ys) e =
    past_front n xs ys (ap (drop 1) e) ∙ sym (ap (λ o. ordering_then o (key_cmp (folded xs) (folded ys))) (same_byte x y (ap (λ l. get_or l 0 0) e)))

-- the first eight bytes of both are the same
pub past_eight : (xs ys front other rest others : List ℕ) → front ≡ take 8 xs → rest ≡ drop 8 xs → other ≡ take 8 ys → others ≡ drop 8 ys → bytes_eq front other ≡ true → key_cmp (folded rest) (folded others) ≡ key_cmp (folded xs) (folded ys)
past_eight xs ys front other rest others f r o s e =
    let same : take 8 xs ≡ take 8 ys = sym f ∙ (bytes_eq-Decides front other).0 e ∙ o in
    ap (λ l. key_cmp (folded l) (folded others)) r ∙ ap (λ l. key_cmp (folded (drop 8 xs)) (folded l)) s ∙ past_front 8 xs ys same
