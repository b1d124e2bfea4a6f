use Rattle.std.proofs.Common.{◌∙◌, ap, sym}
use Rattle.spec_data.specs.Rows.{Row}
use Rattle.doc_keeper.proofs.ReadLemmas.{last_found}
use Rattle.doc_keeper.proofs.loading.last_of.Goals as goal

pub returns-in-Some : goal.returns-in-Some
returns-in-Some c = ap (λ (x : Row). x.etag) (c.behind-row.view_is ∙ c.get.ensures) ∙ sym (last_found c.args.rows.now c.in-Some.row.now (sym c.in-Some.ensures.value))
