use denote.Param.Send.{sendable, param_sync}
use Rattle.std.proofs.Common.{◌∙◌, ap, subst, sym}
use Rattle.std.proofs.Crossing.{crosses}
use Rattle.spec_index.specs.World.{Slot}
use Rattle.index_definition.specs.DefinitionView.{definition_view}
use Rattle.index_definition.specs.declared.definition.Definition.{Definition}
use Rattle.index_version.specs.Meaning.{Means, found_meaning}
use Rattle.index_version.specs.Named.{NamedVersion}
use Rattle.index_version.proofs.Meanings.{definition_means}
use Rattle.index_definition.proofs.Crossing.{definition_sync}
use Rattle.slot_batches.proofs.Counting.{next_counts}
use Rattle.slot_batches.proofs.batches.next_version.Lts.{arg-3-1}
use Rattle.slot_batches.proofs.batches.next_version.Goals as goal

-- the definition may be read by several threads
pub next-requires-sync-M : goal.next-requires-sync-M
next-requires-sync-M g c κs within =
    param_sync 1 (arg-3-1 g.row.R g.row.L g.R.laws g.L.laws g.R.Threads g.R.Threads-dict g.L.Ledger g.L.Ledger-dict κs) (search (sendable, crosses, definition_sync) depth 60 fits 4000)

pub next-requires-clause-means : goal.next-requires-clause-means
next-requires-clause-means g c κs within =
    let own = definition_view c.deref-2.result.now.body in
    subst (Means (found_meaning own))
    (ap (λ (d : Definition). definition_view d.body) c.deref-2.ensures ∙ c.definition.ensures.body ∙ ap (λ (v : NamedVersion). v.version.definition) (c.deref.ensures ∙ sym c.deref-3.ensures))
    (definition_means own)

pub returns-clause-bounds : goal.returns-clause-bounds
returns-clause-bounds g c =
    let own = ap (λ (v : NamedVersion). v.version) c.deref-3.ensures ∙ ap (λ (s : Slot). s.version) c.slot.view_is in
    next_counts c.args.store.now c.args.max c.args.slot.now c.deref-3.result.now.version c.next.result c.args.steps.now c.next.new.steps own c.next.ensures.maps c.next.ensures.plain c.next.ensures.next c.next.ensures.merges c.next.ensures.reads c.next.ensures.idle
