use Rattle.std.proofs.Common.{◌≡◌, length, ◌∙◌, arith}
use Rattle.doc_store.specs.Maps.{Shows}
use Rattle.doc_store.proofs.MapLemmas.{shown}
use Rattle.doc_store.proofs.OrderLemmas.{as_many}
use Rattle.doc_store.proofs.store.Store.len.Goals as goal
use Rattle.doc_store.proofs.store.Store.len.Goals.{After-len}

shows : (c : After-len) → Shows c.self.inside.by_id c.self.inside.by_collection c.self.inside.last c.args.self.now.rows
shows c = shown _ _ _ _ _ _ _ c.self.view_is c.self.invariant

len_is : (c : After-len) → c.len.result ≡ length c.args.self.now.rows
len_is c = c.len.ensures.count ∙ as_many _ _ _ _ (shows c)

pub overflow_cast-result : goal.overflow_cast-result
overflow_cast-result c =
    let len = len_is (goal.at.overflow_cast-result c).After-len in
    let s = shows (goal.at.overflow_cast-result c).After-len in
    let few = s.kept.within.rows in
    omega arith

pub returns : goal.returns
returns c = len_is (goal.at.returns c).After-len
