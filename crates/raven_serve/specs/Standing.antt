-- What becomes of the rows that a desk of a turn has seen.
use Rattle.std.specs.Prelude.{ℕ, List, ◌∷◌, All}
use Rattle.spec_data.specs.Rows.{Row}
use Rattle.spec_desk.specs.Lived.{Seen}
use Rattle.spec_desk.specs.Receipts.{Receipt}
use Rattle.raven_laws.specs.Cleaning.{Stands}
use Rattle.http_desk.specs.Chains.{Given}

-- the last look of a receipt, and those before it
abbrev pub shots_of : Receipt → List Seen
shots_of r = r.shot ∷ r.earlier

-- each look of these requests found the row, or a newer one of its id, or a store that was cleaned at least up to the row
abbrev pub AllShow : List Given → List ℕ → Row → Type 0
AllShow given q r = All (λ (g : Given). All (λ (s : Seen). Stands s.world.store q r) (shots_of g.receipt)) given
