-- Maps under ids, seen as maps under their folded ids.
use Rattle.std.specs.Prelude.{ℕ, List, map}
use Rattle.std.specs.FinMap.{FinMap, from_entries}
use Rattle.spec_data.specs.Folding.{folded, key_cmp}

abbrev pub folded_entries : {V : Type 0} → List (List ℕ × V) → List (List ℕ × V)
folded_entries entries = map (λ e. (folded e.0, e.1)) entries

-- the map of these entries
abbrev pub by_folded : {V : Type 0} → List (List ℕ × V) → FinMap key_cmp V
by_folded entries = from_entries (folded_entries entries)
