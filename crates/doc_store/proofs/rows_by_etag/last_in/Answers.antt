use Rattle.std.proofs.Common.{◌≡◌, ◌-◌, length, ◌∙◌, ap, sym, arith}
use Rattle.spec_data.specs.Rows.{Row}
use Rattle.doc_store.proofs.TombstoneLemmas.{last_at, none_at}
use Rattle.doc_store.proofs.rows_by_etag.last_in.Goals as goal
use Rattle.doc_store.proofs.rows_by_etag.last_in.Goals.{After-nth}

-- the place of the last pair
place_is : (c : After-nth) → c.saturating_sub.result ≡ length c.args.rows.now - 1
place_is c = let place = c.saturating_sub.ensures in let len = c.len.ensures.count in omega arith

pub returns-in-Some : goal.returns-in-Some
returns-in-Some c =
    ap (λ (x : Row). x.etag) (c.behind-pair.view_is ∙ c.get.ensures)
    ∙ last_at c.args.rows.now 0 c.saturating_sub.result c.in-Some.pair.now (place_is (goal.at.returns-in-Some c).After-nth) (sym c.in-Some.ensures.pair)

pub returns-in-None : goal.returns-in-None
returns-in-None c = none_at c.args.rows.now c.saturating_sub.result (place_is (goal.at.returns-in-None c).After-nth) (sym c.in-None.ensures.pair)
