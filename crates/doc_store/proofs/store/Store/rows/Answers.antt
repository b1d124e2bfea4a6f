use Rattle.std.proofs.Common.{◌∙◌, ap}
use Rattle.spec_store.specs.Store.{Store}
use Rattle.doc_store.specs.Maps.{Shows, rows_in}
use Rattle.doc_store.proofs.MapLemmas.{shown}
use Rattle.doc_store.proofs.IdLemmas.{in_order}
use Rattle.doc_store.proofs.store.Store.rows.Goals as goal

pub returns : goal.returns
returns c =
    let S : Store = c.args.self.now in
    let s : Shows c.self.inside.by_id c.self.inside.by_collection c.self.inside.last S.rows = shown _ _ _ _ _ _ _ c.self.view_is c.self.invariant in
    c.of.ensures ∙ c.in_ok-all_of.ensures ∙ ap rows_in c.iter.ensures.pairs ∙ in_order c.self.inside.by_id S.rows c.iter.ensures.rising s.filed s.by_ids
