-- The row of a list of entries.
use Rattle.std.specs.Prelude.{Option, Some, None, List, [], ◌∷◌}

-- their rows merged, with the row of no entries at the end
abbrev pub fold_of : {E R : Type 0} → (E → R) → R → (R → R → R) → List E → R
fold_of lifted none merged [] = none
fold_of lifted none merged (e ∷ es) = merged (lifted e) (fold_of lifted none merged es)

-- the same, if there are any entries
abbrev pub result_of : {E R : Type 0} → (E → R) → R → (R → R → R) → List E → Option R
result_of lifted none merged [] = None
result_of lifted none merged (e ∷ es) = Some (fold_of lifted none merged (e ∷ es))
