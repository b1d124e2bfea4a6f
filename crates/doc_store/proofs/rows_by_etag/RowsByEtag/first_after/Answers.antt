use Rattle.std.proofs.Common.{ℕ, option_map, ◌∙◌, ap}
use Rattle.spec_data.specs.Rows.{Row}
use Rattle.doc_store.proofs.MapLemmas.{shown_by_etag}
use Rattle.doc_store.proofs.WalkLemmas.{found_after}
use Rattle.doc_store.proofs.rows_by_etag.RowsByEtag.first_after.Goals as goal

pub returns-clause-row : goal.returns-clause-row
returns-clause-row c =
    c.row_of.ensures ∙ ap (option_map (λ (e : ℕ × Row). e.1)) c.first_after.ensures.pair
    ∙ found_after c.self.inside.rows c.args.self.now c.args.etag (shown_by_etag _ _ _ _ _ c.self.view_is c.self.invariant).pairs
