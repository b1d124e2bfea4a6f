use Rattle.std.proofs.Common.{◌∙◌, ap}
use Rattle.doc_store.specs.Maps.{rows_in}
use Rattle.doc_store.proofs.MapLemmas.{gone_shown, store_shown}
use Rattle.doc_store.proofs.TombstoneLemmas.{old_are}
use Rattle.doc_store.proofs.store.Store.old_tombstones.Goals as goal

pub returns-clause-old : goal.returns-clause-old
returns-clause-old c =
    c.of.ensures ∙ c.in_ok-all_of.ensures ∙ ap rows_in c.range-old.ensures.pairs
    ∙ old_are c.self.inside.tombstones c.args.self.now.rows c.args.upto (gone_shown _ _ _ _ _ _ _ c.self.view_is c.self.invariant)

pub returns-clause-store : goal.returns-clause-store
returns-clause-store c = store_shown _ _ _ _ _ _ _ c.self.view_is c.self.invariant
