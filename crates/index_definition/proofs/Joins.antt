-- The joined form of a path, from its first part on.
use Rattle.std.proofs.Common.{◌≡◌, ◌<◌, ◌-◌, ℕ, List, [], ◌∷◌, ◌++◌, length, get_or, take, drop, refl, ap, ◌∙◌, arith, codes}
use Rattle.std.proofs.lemmas.Grind.{common_steps}
use Rattle.spec_data.specs.Members.{Path}
use Rattle.index_tree.specs.Mapper.{joined}

-- each part after a dot
abbrev pub dotted : Path → List ℕ
dotted [] = []
dotted (part ∷ parts) = codes "." ++ (part ++ dotted parts)

append-none : (xs : List ℕ) → xs ++ [] ≡ xs
append-none [] = refl
append-none (x ∷ xs) = ap (λ ys. x ∷ ys) (append-none xs)

pub joined-dotted : (part : List ℕ) (parts : Path) → part ++ dotted parts ≡ joined (part ∷ parts)
joined-dotted part [] = append-none part
joined-dotted part (next ∷ parts) = ap (λ more. part ++ (codes "." ++ more)) (joined-dotted next parts)

-- a path is its first part and those behind it
pub joined-parts : (s : Path) (part : List ℕ) → 0 < length s → part ≡ get_or s 0 part → part ++ dotted (take (length s - 1) (drop 1 s)) ≡ joined s
joined-parts [] part h is = absurd (omega arith)
joined-parts (p ∷ ps) part h is =
    let rest : take (length (p ∷ ps) - 1) ps ≡ ps = grind (arith, common_steps) in
    ap (λ x. x ++ dotted (take (length (p ∷ ps) - 1) ps)) is ∙ ap (λ more. p ++ dotted more) rest ∙ joined-dotted p ps
