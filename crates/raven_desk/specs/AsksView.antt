-- What the keeper is asked for a change.
use Rattle.std.specs.Prelude.{◌≡◌, ℕ, List, Option, Some, None}
use Rattle.spec_data.specs.Kept.{all_kept}
use Rattle.spec_data.specs.Rows.{Row}
use Rattle.raven_desk.specs.declared.course.Asks.{Asks}
use Rattle.raven_desk.specs.declared.course.Asks.TheVariants.{Store, Clean}

-- the etag up to which it is to remove tombstones, if it is
abbrev pub cleans_in : Asks → Option ℕ
cleans_in (Store kept) = None
cleans_in (Clean upto) = Some upto

-- it may be asked so for these rows: what it is to store are the rows
abbrev pub IsAskedFor : List Row → Asks → Type 0
IsAskedFor rows (Store kept) = kept ≡ all_kept rows
IsAskedFor rows (Clean upto) = Unit {0}
