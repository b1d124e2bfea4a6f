use Rattle.std.proofs.Common.{subst}
use Rattle.spec_index.specs.World.{Version}
use Rattle.index_version.specs.Entries.{all_entries}
use Rattle.rql_filter.specs.Entries.{AreTermsOf}
use Rattle.raven_snapshot.proofs.entries.IndexEntriesEntries.terms.Goals as goal

pub returns : goal.returns
returns c = subst (λ (v : Version). AreTermsOf (all_entries v) c.terms.result.now) c.self.view_is (record { order = c.terms.ensures.order; values = c.terms.ensures.values c.self.invariant })
