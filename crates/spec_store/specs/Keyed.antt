-- A table as the list of its rows, in order of their keys.
use Rattle.std.specs.Prelude.{◌≡◌, ℕ, List, [], ◌∷◌, if◌then◌else◌}
use Rattle.std.specs.declared.cmp.Ordering.TheVariants.{Less}
use Rattle.std.specs.Ordering.{match_ordering}
use Rattle.spec_data.specs.Folding.{key_cmp}
use Rattle.spec_data.specs.Rows.{Row, key, is_document}

-- the key is below that of the first row, if there is one
abbrev pub IsBelowFirst : List ℕ → List Row → Type 0
IsBelowFirst k [] = Unit {0}
IsBelowFirst k (r ∷ rows) = key_cmp k (key r) ≡ Less

-- each key is below the next
abbrev pub AreKeyed : List Row → Type 0
AreKeyed [] = Unit {0}
AreKeyed (r ∷ rows) = IsBelowFirst (key r) rows × AreKeyed rows

-- the list with the row in front if it is a document; a tombstone is left out
abbrev pub in_front : Row → List Row → List Row
in_front r rows = if is_document r then r ∷ rows else rows

-- a document is put in its place, or replaces the row of its id; a tombstone removes the row of its id
abbrev pub noted_list : Row → List Row → List Row
noted_list r [] = in_front r []
noted_list r (x ∷ rows) = match_ordering (key_cmp (key r) (key x)) (in_front r (x ∷ rows)) (in_front r rows) (x ∷ noted_list r rows)

-- the rows of the first list are noted, one after another
abbrev pub noted_lists : List Row → List Row → List Row
noted_lists [] rows = rows
noted_lists (r ∷ more) rows = noted_lists more (noted_list r rows)
