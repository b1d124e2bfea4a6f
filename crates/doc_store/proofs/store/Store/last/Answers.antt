use Rattle.std.proofs.Common.{arith}
use Rattle.doc_store.proofs.MapLemmas.{shown, store_shown}
use Rattle.doc_store.proofs.store.Store.last.Goals as goal

pub returns-clause-last : goal.returns-clause-last
returns-clause-last c = (shown _ _ _ _ _ _ _ c.self.view_is c.self.invariant).last_is

pub returns-clause-bound : goal.returns-clause-bound
returns-clause-bound c =
    let s = shown _ _ _ _ _ _ _ c.self.view_is c.self.invariant in
    let last = s.last_is in
    let bound = s.kept.within.etags in
    omega arith

pub returns-clause-store : goal.returns-clause-store
returns-clause-store c = store_shown _ _ _ _ _ _ _ c.self.view_is c.self.invariant
