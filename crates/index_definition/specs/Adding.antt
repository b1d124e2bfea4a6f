-- Names that are added to others if they are not among them.
use Rattle.std.specs.Prelude.{ℕ, Bool, List, [], ◌∷◌, ◌++◌, if◌then◌else◌}
use Rattle.std.specs.List.{list_any}
use Rattle.std.specs.Str.{bytes_eq}

abbrev pub is_among : List (List ℕ) → List ℕ → Bool
is_among names name = list_any (bytes_eq name) names

abbrev pub with_new : List (List ℕ) → List (List ℕ) → List (List ℕ)
with_new seen [] = seen
with_new seen (name ∷ more) = if is_among seen name then with_new seen more else with_new (seen ++ name ∷ []) more
