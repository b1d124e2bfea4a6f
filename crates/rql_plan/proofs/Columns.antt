-- Which columns a query has.
use Rattle.std.proofs.Common.{◌≡◌, ◌==◌, List, [], ◌∷◌, ◌++◌, true, false, arith, length, map, refl}
use Rattle.std.proofs.lemmas.Bool.{eqb-true}
use Rattle.spec_data.specs.Members.{Path}
use Rattle.spec_query.specs.Binding.{columns_of, plain_column, selected_column}
use Rattle.spec_query.specs.Query.{At, Count, Column}

pub no_columns : (groups : List Path) → (length groups == 0) ≡ true → columns_of groups [] ≡ []
no_columns [] empty = refl
no_columns (g ∷ groups) empty = let none = eqb-true (length (g ∷ groups)) 0 empty in absurd (omega arith)

pub groups_and_count : (groups : List Path) → (length groups == 0) ≡ false → columns_of groups [] ≡ map (λ path. plain_column (At path)) groups ++ plain_column Count ∷ []
groups_and_count [] filled = cc
groups_and_count (g ∷ groups) filled = refl

pub without_select : (groups : List Path) (columns : List Column) → (length columns == 0) ≡ true → columns_of groups columns ≡ columns_of groups []
without_select groups [] empty = refl
without_select groups (c ∷ columns) empty = let none = eqb-true (length (c ∷ columns)) 0 empty in absurd (omega arith)

pub with_select : (groups : List Path) (columns : List Column) → (length columns == 0) ≡ false → columns_of groups columns ≡ map selected_column columns
with_select groups [] filled = cc
with_select [] (c ∷ columns) filled = refl
with_select (g ∷ groups) (c ∷ columns) filled = refl

pub ruleset columns = (no_columns, groups_and_count, without_select, with_select)
