-- What a CLEAN does.
use Rattle.std.proofs.Common.{◌≡◌, ℕ, ◌≤◌, List, not, length, refl, sym, subst, arith}
use Rattle.std.proofs.lemmas.List.Filters.{length-filter_both}
use Rattle.spec_data.specs.Rows.{Row}
use Rattle.spec_store.specs.Cleaning.{is_old_tombstone, old_tombstones}

-- they are no more than the rows
pub few_gone : (upto : ℕ) (rows gone : List Row) → gone ≡ old_tombstones upto rows → length gone ≤ length rows
few_gone upto rows gone is =
    let both = length-filter_both (is_old_tombstone upto) (λ r. not (is_old_tombstone upto r)) (λ r. refl) rows in
    subst (λ (l : List Row). length l ≤ length rows) (sym is) (omega (arith, both))

pub ruleset cleanings = (few_gone)
