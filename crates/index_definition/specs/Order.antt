-- Paths that are put in their places.
use Rattle.std.specs.Prelude.{◌≡◌, ◌≤◌, List, [], ◌∷◌, ℕ, insert, length, map}
use Rattle.spec_data.specs.Members.{Path}
use Rattle.index_tree.specs.Mapper.{joined}
use Rattle.spec_index.specs.Optimiser.{with_path}

-- the last one first
abbrev pub with_paths : List Path → List Path → List Path
with_paths [] found = found
with_paths (p ∷ ps) found = with_path p (with_paths ps found)

-- each path is behind its joined form
abbrev pub AreNamed : List (List ℕ × Path) → Type 0
AreNamed [] = Unit {0}
AreNamed (p ∷ ps) = (p.0 ≡ joined p.1) × AreNamed ps

abbrev pub paths_of : List (List ℕ × Path) → List Path
paths_of items = map (λ p. p.1) items

-- the path is put in at i
pub record IsPlace (name : List ℕ) (path : Path) (items : List (List ℕ × Path)) (i : ℕ) : Type 0 where
  pub within : i ≤ length items
  pub puts : with_path path (paths_of items) ≡ paths_of (insert items i (name, path))
  pub named : AreNamed (insert items i (name, path))

-- nothing is put in
abbrev pub IsThere : Path → List (List ℕ × Path) → Type 0
IsThere path items = with_path path (paths_of items) ≡ paths_of items
