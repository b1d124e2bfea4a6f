use Rattle.std.proofs.Common.{nat_lt, ◌∙◌, ap, sym}
use Rattle.spec_store.specs.Stale.{newest}
use Rattle.spec_store.proofs.StaleLemmas.{stale-newest}
use Rattle.doc_store.proofs.store.Store.newest.Goals as goal

pub returns-clause-stale : goal.returns-clause-stale
returns-clause-stale c =
    λ etag. stale-newest c.args.self.now c.args.scope.now etag c.args.upto c.newest_in_scope.ensures.sound
    ∙ ap (nat_lt etag) (sym (c.newest_in_scope.ensures.newest ∙ ap (λ scope. newest c.args.self.now scope c.args.upto) c.as_slice.ensures))
