-- What stands behind a part of a name.
use Rattle.std.specs.Prelude.{◌≡◌, ℕ, List, ◌++◌, false, codes}
use Rattle.std.specs.Str.{bytes_eq}

-- the name is the part, a dot and the rest
abbrev pub IsPartThen : List ℕ → List ℕ → List ℕ → Type 0
IsPartThen part name rest = name ≡ part ++ (codes "." ++ rest)

-- whatever the rest is, the name is not the part, a dot and that rest
abbrev pub IsNoPart : List ℕ → List ℕ → Type 0
IsNoPart part name = (rest : List ℕ) → bytes_eq (part ++ (codes "." ++ rest)) name ≡ false
