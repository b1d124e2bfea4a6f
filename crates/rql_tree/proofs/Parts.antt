-- The parts of a path with dots between them.
use Rattle.std.proofs.Common.{◌≡◌, List, ℕ, [], ◌∷◌, ◌++◌, Bool, true, false, flat_map, codes, refl, ap, ◌∙◌, append-nil, append_assoc}
use Rattle.index_tree.specs.Mapper.{joined}
use Rattle.rql_tree.specs.Printed.{parted}

-- each part behind a dot
abbrev pub dotted : List (List ℕ) → List ℕ
dotted parts = flat_map (λ next. codes "." ++ next) parts

-- the parts that are left, behind others or as the first
abbrev pub goes_on : Bool → List (List ℕ) → List ℕ
goes_on true parts = dotted parts
goes_on false parts = parted parts

pub parted_joined : (parts : List (List ℕ)) → parted parts ≡ joined parts
parted_joined [] = refl
parted_joined (part ∷ []) = append-nil part
parted_joined (part ∷ next ∷ parts) =
    ap (λ more. part ++ more) (append_assoc (codes ".") next (dotted parts)) ∙ ap (λ more. part ++ (codes "." ++ more)) (parted_joined (next ∷ parts))
