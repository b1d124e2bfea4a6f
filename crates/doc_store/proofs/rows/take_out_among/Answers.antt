use Rattle.std.proofs.Common.{◌≡◌, ◌∙◌, ap}
use Rattle.std.specs.BTreeMap.{insert_entry}
use Rattle.spec_data.specs.Folding.{key_cmp}
use Rattle.spec_data.specs.Rows.{Row, key}
use Rattle.spec_store.specs.Store.{row_at}
use Rattle.doc_store.specs.Maps.{rows_of, without_key}
use Rattle.doc_store.proofs.MapLemmas.{changed_among_is}
use Rattle.doc_store.proofs.rows.take_out_among.Goals as goal
use Rattle.doc_store.proofs.rows.take_out_among.Goals.{In_ok-rows}

name_is : (c : In_ok-rows) → c.in_ok-name.name ≡ c.args.row.now.collection
name_is c = c.in_ok-name.ensures.cases ∙ ap (λ (x : Row). x.collection) c.row.view_is

rows_are : (c : In_ok-rows) → c.in_ok-rows.rows ≡ rows_of c.args.collections c.args.row.now.collection
rows_are c = c.in_ok-rows.ensures ∙ ap (rows_of c.args.collections) (name_is c)

pub without_tombstone-requires-clause-here : goal.without_tombstone-requires-clause-here
without_tombstone-requires-clause-here c = ap (row_at (key c.args.row.now)) (rows_are (goal.at.without_tombstone-requires-clause-here c).In_ok-rows) ∙ c.requires.here

pub returns : goal.returns
returns c =
    changed_among_is (without_key (key c.args.row.now)) c.args.collections c.in_ok-put.field-0 c.args.row.now c.in_ok-name.name c.in_ok-rows.rows c.in_ok-left.left c.in_ok-others.ensures.rising
    (name_is (goal.at.returns c).In_ok-rows) c.in_ok-rows.ensures c.in_ok-left.ensures
    (c.in_ok-put.ensures.pairs ∙ ap (λ es. insert_entry key_cmp es c.in_ok-name.name c.in_ok-left.left) c.in_ok-others.ensures.pairs)
