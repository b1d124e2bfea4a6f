-- The parts of keys as the program has them.
use Rattle.std.proofs.Common.{◌≡◌, List, [], ◌∷◌, ◌++◌, map, refl, ap, ◌∙◌}
use Rattle.std.specs.Ordering.{on, ordering_then}
use Rattle.std.specs.Cmp.Lexicographic.{slice_cmp}
use Rattle.spec_data.specs.Scalars.{order}
use Rattle.raven_value.specs.ScalarView.{scalar_view}
use Rattle.raven_value.specs.declared.scalar.Scalar.{Scalar}
use Rattle.spec_index.specs.Rows.{key_order}

pub parts_compared : (xs ys : List Scalar) → slice_cmp (on scalar_view order) xs ys ≡ key_order (map scalar_view xs) (map scalar_view ys)
parts_compared [] [] = refl
parts_compared [] (y ∷ ys) = refl
parts_compared (x ∷ xs) [] = refl
parts_compared (x ∷ xs) (y ∷ ys) = ap (ordering_then (order (scalar_view x) (scalar_view y))) (parts_compared xs ys)

one_more : (xs : List Scalar) (s : Scalar) → map scalar_view (xs ++ s ∷ []) ≡ map scalar_view xs ++ scalar_view s ∷ []
one_more [] s = refl
one_more (x ∷ xs) s = ap (λ l. scalar_view x ∷ l) (one_more xs s)

pub part_more : (old new : List Scalar) (s : Scalar) → new ≡ old ++ s ∷ [] → map scalar_view new ≡ map scalar_view old ++ scalar_view s ∷ []
part_more old new s e = ap (map scalar_view) e ∙ one_more old s
