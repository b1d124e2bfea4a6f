use Rattle.std.proofs.Common.{◌≡◌, List, length, not, ◌∙◌, ap}
use Rattle.std.specs.Ordering.{nat_cmp}
use Rattle.std.specs.Map.{remove_entry}
use Rattle.std.specs.BTreeMap.{is_at}
use Rattle.spec_data.specs.Folding.{same_key}
use Rattle.spec_data.specs.Rows.{Row, key}
use Rattle.spec_store.specs.Store.{last_of}
use Rattle.doc_store.specs.Maps.{ShowsByEtag, by_etag, rows_in, without_key}
use Rattle.doc_store.proofs.FromLemmas.{AreFrom-filter}
use Rattle.doc_store.proofs.MapLemmas.{all_shown, rows_in-by_etag, shown_by_etag}
use Rattle.doc_store.proofs.TombstoneLemmas.{AreRows-filter, documents-without, pairs-without}
use Rattle.doc_store.proofs.rows_by_etag.RowsByEtag.without_tombstone.Goals as goal
use Rattle.doc_store.proofs.rows_by_etag.RowsByEtag.without_tombstone.Goals.{In_ok-left}

pairs_are : (c : In_ok-left) → c.in_ok-left.left ≡ by_etag (without_key (key c.args.row.now) c.args.self)
pairs_are c =
    let rows : List Row = c.args.self in
    let s : ShowsByEtag c.self.inside.rows c.self.inside.last c.self.inside.documents c.self.inside.least rows = shown_by_etag _ _ _ _ _ c.self.view_is c.self.invariant in
    pairs-without rows c.args.row.now c.self.inside.rows _ s.store c.requires.here s.pairs
    (c.in_ok-left.ensures.pairs ∙ ap (λ (x : Row). remove_entry (is_at (nat_cmp x.etag)) c.self.inside.rows) c.row.view_is)

rows_are : (c : In_ok-left) → rows_in c.in_ok-left.left ≡ without_key (key c.args.row.now) c.args.self
rows_are c = ap rows_in (pairs_are c) ∙ rows_in-by_etag (without_key (key c.args.row.now) c.args.self)

pub invariant_of-result : goal.invariant_of-result
invariant_of-result c =
    let rows : List Row = c.args.self in
    let at = (goal.at.invariant_of-result c).In_ok-left in
    let s : ShowsByEtag c.self.inside.rows c.self.inside.last c.self.inside.documents c.self.inside.least rows = shown_by_etag _ _ _ _ _ c.self.view_is c.self.invariant in
    all_shown _ _ _ _ (without_key (key c.args.row.now) rows) (AreRows-filter (λ x. not (same_key (key c.args.row.now) (key x))) rows s.store) (pairs_are at) (c.last_in.ensures ∙ ap (last_of 0) (rows_are at))
    (s.documents_are ∙ ap length (documents-without rows c.args.row.now s.store.apart c.requires.here c.requires.tombstone)) (AreFrom-filter c.self.inside.least (λ x. not (same_key (key c.args.row.now) (key x))) rows s.from)

pub returns : goal.returns
returns c = rows_are (goal.at.returns c).In_ok-left
