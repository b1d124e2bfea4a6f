use Rattle.std.proofs.Common.{sym}
use Rattle.doc_store.specs.Maps.{Shows}
use Rattle.doc_store.proofs.MapLemmas.{gone_shown, shown}
use Rattle.doc_store.proofs.TombstoneLemmas.{first_tells, none_tells}
use Rattle.doc_store.proofs.store.Store.has_old_tombstone.Goals as goal

pub returns-in-Some : goal.returns-in-Some
returns-in-Some c =
    let s : Shows c.self.inside.by_id c.self.inside.by_collection c.self.inside.last c.args.self.now.rows = shown _ _ _ _ _ _ _ c.self.view_is c.self.invariant in
    first_tells c.self.inside.tombstones c.args.self.now.rows c.args.upto c.in-Some.first.now s.kept.store.rising (gone_shown _ _ _ _ _ _ _ c.self.view_is c.self.invariant) (sym c.in-Some.ensures.pair)

pub returns-in-None : goal.returns-in-None
returns-in-None c = none_tells c.self.inside.tombstones c.args.self.now.rows c.args.upto (gone_shown _ _ _ _ _ _ _ c.self.view_is c.self.invariant) (sym c.in-None.ensures.pair)
