use Rattle.std.proofs.Common.{◌∙◌, ap, sym}
use Rattle.std.specs.BTreeMap.{insert_entry, is_at}
use Rattle.std.specs.Map.{remove_entry}
use Rattle.spec_data.specs.Rows.{Row, is_document}
use Rattle.reference_track.specs.Sets.{id_cmp}
use Rattle.index_version.proofs.TableLemmas.{noted_document, noted_tombstone}
use Rattle.index_version.proofs.table.noted.Goals as goal

pub returns-in_ok-put : goal.returns-in_ok-put
returns-in_ok-put c =
    let r : Row = c.args.row.now in
    noted_document c.args.rows c.in_ok-put.field-0 r (ap is_document (sym c.get-taken.ensures) ∙ sym c.is_document.ensures ∙ c.if-is_document.true)
    (c.in_ok-put.ensures.pairs
    ∙ ap (λ id. insert_entry id_cmp c.args.rows id c.in_ok-shared.shared) (c.in_ok-id.ensures.cases ∙ ap (λ (x : Row). x.id) (c.taken.view_is ∙ c.get-taken.ensures))
    ∙ ap (λ v. insert_entry id_cmp c.args.rows r.id v) c.in_ok-shared.ensures.cases)

pub returns-in_ok-take_out : goal.returns-in_ok-take_out
returns-in_ok-take_out c =
    let r : Row = c.args.row.now in
    noted_tombstone c.args.rows c.in_ok-take_out.field-0 r c.in_ok-take_out.ensures.rising (ap is_document (sym c.get-taken.ensures) ∙ sym c.is_document.ensures ∙ c.if-is_document.false)
    (c.in_ok-take_out.ensures.pairs ∙ ap (λ id. remove_entry (is_at (id_cmp id)) c.args.rows) (ap (λ (x : Row). x.id) (c.taken.view_is ∙ c.get-taken.ensures)))
