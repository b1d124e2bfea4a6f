use Rattle.std.proofs.Common.{◌≡◌, ◌<◌, ◌∙◌, ap, sym, subst}
use Rattle.std.specs.BTreeMap.{insert_entry}
use Rattle.spec_data.specs.Folding.{key_cmp}
use Rattle.spec_data.specs.Rows.{Row, key}
use Rattle.spec_store.specs.Store.{last_of, put, row_at}
use Rattle.doc_store.specs.Maps.{rows_of}
use Rattle.doc_store.proofs.MapLemmas.{changed_among_is}
use Rattle.doc_store.proofs.rows.put_among.Goals as goal
use Rattle.doc_store.proofs.rows.put_among.Goals.{In_ok-rows}

name_is : (c : In_ok-rows) → c.in_ok-name.name ≡ c.args.row.collection
name_is c = c.in_ok-name.ensures.cases ∙ ap (λ (x : Row). x.collection) (c.behind-row.view_is ∙ c.get.ensures)

rows_are : (c : In_ok-rows) → c.in_ok-rows.rows ≡ rows_of c.args.collections c.args.row.collection
rows_are c = c.in_ok-rows.ensures ∙ ap (rows_of c.args.collections) (name_is c)

pub put-requires-clause-replaced : goal.put-requires-clause-replaced
put-requires-clause-replaced c = c.requires.replaced ∙ ap (row_at (key c.args.row)) (sym (rows_are (goal.at.put-requires-clause-replaced c).In_ok-rows))

pub put-requires-clause-newer : goal.put-requires-clause-newer
put-requires-clause-newer c = subst (λ rows. last_of 0 rows < c.args.row.etag) (sym (rows_are (goal.at.put-requires-clause-newer c).In_ok-rows)) c.requires.newer

pub returns : goal.returns
returns c =
    changed_among_is (put c.args.row) c.args.collections c.in_ok-put.field-0 c.args.row c.in_ok-name.name c.in_ok-rows.rows c.in_ok-changed.changed c.in_ok-others.ensures.rising (name_is (goal.at.returns c).In_ok-rows)
    c.in_ok-rows.ensures c.in_ok-changed.ensures
    (c.in_ok-put.ensures.pairs ∙ ap (λ es. insert_entry key_cmp es c.in_ok-name.name c.in_ok-changed.changed) c.in_ok-others.ensures.pairs)
