use Rattle.std.proofs.Common.{◌≡◌, ℕ, ◌+◌, ◌*◌, ◌≤◌, length}
use Rattle.json.specs.Json.{items, members, value}
use Rattle.serde_json.specs.Data.{Members, no_members}
use Rattle.serde_json.specs.Read.{of_items, of_members, converted}
use Rattle.spec_data.specs.Json.{items_of}
use Rattle.spec_data.specs.Rising.{IsRising}
use Rattle.raven_json.specs.Whole.{front_items}
use Rattle.raven_json.proofs.OnePass.{AreValues}
use Rattle.raven_json.proofs.direct.+direct.Given as goal

abbrev pub decreases-read_value : goal.decreases-read_value
decreases-read_value l = 2 * l.depth

abbrev pub decreases-read_items : goal.decreases-read_items
decreases-read_items l = 2 * l.depth + 1

abbrev pub decreases-read_members : goal.decreases-read_members
decreases-read_members l = 2 * l.depth + 1

abbrev pub invariant-read_items-items : goal.invariant-read_items-items
invariant-read_items-items l =
    (n : ℕ) × (length l.reader ≤ n)
    × (front_items l.depth l.initial.reader ≡ converted (λ ds. items_of ds l.found) (converted of_items (items (value l.depth) n l.reader)))
    × (length l.reader ≤ length l.initial.reader)

abbrev pub decreases-read_items-items : goal.decreases-read_items-items
decreases-read_items-items l = length l.reader

abbrev pub invariant-read_members-members : goal.invariant-read_members-members
invariant-read_members-members l =
    (n : ℕ) × (ms : Members) × (length l.reader ≤ n) × AreValues ms l.found × IsRising l.found
    × (converted (λ more. of_members more no_members) (members (value l.depth) (length l.initial.reader) l.initial.reader)
    ≡ converted (λ more. of_members more ms) (members (value l.depth) n l.reader))
    × (length l.reader ≤ length l.initial.reader)

abbrev pub decreases-read_members-members : goal.decreases-read_members-members
decreases-read_members-members l = length l.reader
