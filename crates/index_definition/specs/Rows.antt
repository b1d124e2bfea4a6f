-- Members that are put into others.
use Rattle.std.specs.Prelude.{ℕ, List, [], ◌∷◌}
use Rattle.spec_data.specs.Data.{Data}
use Rattle.spec_data.specs.Rising.{Pairs, put}

-- one after another
abbrev pub put_members : List (List ℕ × Data) → Pairs → Pairs
put_members [] members = members
put_members (m ∷ more) members = put_members more (put m.0 m.1 members)
