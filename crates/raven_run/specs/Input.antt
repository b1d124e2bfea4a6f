-- What was taken of an input, if it reports what is left.
use Rattle.std.specs.Prelude.{◌≡◌, ℕ, ◌≤◌, List, [], length, Option, Some, None}
use Rattle.spec_server.specs.Lines.{max_input}

-- all was taken, and it was no more than may be read
abbrev pub IsRead : Option (List ℕ) → Option (List ℕ) → Type 0
IsRead (Some script) left = (left ≡ Some []) × (length script ≤ max_input)
IsRead None left = Unit {0}
