-- Fields that need groups, with and without them.
use Rattle.std.proofs.Common.{◌≡◌, ◌==◌, List, [], ◌∷◌, true, false, not, arith, length, refl}
use Rattle.std.proofs.lemmas.Bool.{eqb-true}
use Rattle.spec_data.specs.Members.{Path}
use Rattle.spec_query.specs.Fields.{has_path, is_of_group, is_ungrouped}
use Rattle.spec_query.specs.Query.{Field, At, Count, Sum}

pub no_groups : (groups : List Path) (field : Field) → (length groups == 0) ≡ true → is_ungrouped groups field ≡ is_of_group field
no_groups [] field empty = refl
no_groups (g ∷ groups) field empty = let none = eqb-true (length (g ∷ groups)) 0 empty in absurd (omega arith)

pub path_in_groups : (groups : List Path) (path : Path) → (length groups == 0) ≡ false → is_ungrouped groups (At path) ≡ not (has_path groups path)
path_in_groups [] path filled = cc
path_in_groups (g ∷ groups) path filled = refl

pub count_in_groups : (groups : List Path) → (length groups == 0) ≡ false → is_ungrouped groups Count ≡ false
count_in_groups [] filled = cc
count_in_groups (g ∷ groups) filled = refl

pub sum_in_groups : (groups : List Path) (path : Path) → (length groups == 0) ≡ false → is_ungrouped groups (Sum path) ≡ false
sum_in_groups [] path filled = cc
sum_in_groups (g ∷ groups) path filled = refl

pub ruleset groups = (no_groups, path_in_groups, count_in_groups, sum_in_groups)
