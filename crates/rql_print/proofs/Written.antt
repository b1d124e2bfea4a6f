-- What several writes in a row have written.
use Rattle.std.proofs.Common.{◌≡◌, ◌<◌, ◌+◌, ◌∙◌, ℕ, List, ◌∷◌, ◌++◌, ap, append_assoc, codes, drop, get_or, length, sym}
use Rattle.std.proofs.lemmas.List.{drop_more}
use Rattle.rql_print.specs.Print.{clause}

pub five : (out s1 s2 s3 s4 s5 a b c d e : List ℕ) → s1 ≡ out ++ a → s2 ≡ s1 ++ b → s3 ≡ s2 ++ c → s4 ≡ s3 ++ d → s5 ≡ s4 ++ e → s5 ≡ out ++ (a ++ (b ++ (c ++ (d ++ e))))
five out s1 s2 s3 s4 s5 a b c d e h1 h2 h3 h4 h5 = rw (h5, h4, h3, h2, h1) (simp append_assoc)

-- what is left begins with the item at the place
pub left_is : {X : Type 0} (xs : List X) (i : ℕ) (x : X) → i < length xs → x ≡ get_or xs i x → drop i xs ≡ x ∷ drop (i + 1) xs
left_is xs i x more is = drop_more xs i x more ∙ ap (λ y. y ∷ drop (i + 1) xs) (sym is)

one_more : (out s1 s2 lead part rest : List ℕ) → s1 ≡ out ++ lead → s2 ≡ s1 ++ part → s2 ++ rest ≡ out ++ (lead ++ (part ++ rest))
one_more out s1 s2 lead part rest h1 h2 = rw (h2, h1) (simp append_assoc)

-- with the lead and the first of the parts that are left, the others are left
pub one_part_more : (out s1 s2 lead part all : List ℕ) (left rest : List (List ℕ)) → left ≡ part ∷ rest → s1 ≡ out ++ lead → s2 ≡ s1 ++ part → out ++ clause lead left ≡ all
    → s2 ++ clause (codes ", ") rest ≡ all
one_part_more out s1 s2 lead part all left rest begins h1 h2 whole = one_more out s1 s2 lead part (clause (codes ", ") rest) h1 h2 ∙ ap (λ l. out ++ clause lead l) (sym begins) ∙ whole
