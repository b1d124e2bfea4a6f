-- Lists with commas, part by part.
use Rattle.std.proofs.Common.{List, ℕ, ◌++◌, Bool, true, false, flat_map, codes}
use Rattle.index_print.specs.Print.{listed}

-- the parts that are left, behind others or as the first
abbrev pub goes_on : Bool → List (List ℕ) → List ℕ
goes_on true parts = flat_map (λ next. codes ", " ++ next) parts
goes_on false parts = listed parts
