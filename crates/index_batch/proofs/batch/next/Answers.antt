use Rattle.std.proofs.Common.{◌≡◌, ◌+◌, ◌*◌, ◌≤◌, cond, length, ◌∙◌, ap, sym, subst, arith, Some, true, false}
use Rattle.spec_store.specs.Stale.{batch_rows}
use Rattle.spec_data.specs.Tables.{note_rows}
use Rattle.spec_store.specs.Store.{last, last_of}
use Rattle.index_tree.specs.Mapper.{mapper_of}
use Rattle.spec_index.specs.Mapping.{touched}
use Rattle.spec_index.specs.World.{reads}
use Rattle.index_version.specs.Reduced.{KeepCollections}
use Rattle.index_version.specs.Renewed.{touched_documents}
use Rattle.index_batch.proofs.Batches.{batch-fresh, batch-none, batch-some, read_of, told}
use Rattle.index_batch.proofs.Merging.{keeps_collections}
use Rattle.index_batch.proofs.batch.next.Goals as goal

pub returns-then-not-stale-clause-next : goal.returns-then-not-stale-clause-next
returns-then-not-stale-clause-next g c =
    let v = c.args.index.now.version in
    let S = c.args.store.now in
    batch-fresh v S c.args.max (told v S c.scope-scope.result.now c.etag-seen.result c.stale.result false c.scope-scope.ensures c.etag-seen.ensures c.stale.ensures c.if-not-stale.true)

pub returns-then-is_empty-clause-next : goal.returns-then-is_empty-clause-next
returns-then-is_empty-clause-next g c =
    let v = c.args.index.now.version in
    let S = c.args.store.now in
    batch-none v S c.args.max c.in_ok-taken.taken (c.in_ok-taken.ensures.rows ∙ λ i. batch_rows (c.scope-scope.ensures i) (c.etag-seen.ensures i) S c.args.max) (c.is_empty.ensures.0 c.if-is_empty.true)

pub returns-clause-next : goal.returns-clause-next
returns-clause-next g c =
    let v = c.args.index.now.version in
    let S = c.args.store.now in
    ap Some (c.in_ok-next.ensures.version ∙ λ i. record v { etag = c.etag_after-etag.result; table = note_rows v.table (c.as_slice-2.ensures i); cleaned = c.cleaned-cleaned.result })
    ∙ batch-some v S c.args.max c.in_ok-taken.taken c.in_ok-taken.more c.etag_after-etag.result c.cleaned-cleaned.result
    (c.in_ok-taken.ensures.rows ∙ λ i. batch_rows (c.scope-scope.ensures i) (c.etag-seen.ensures i) S c.args.max)
    (λ e. let t = c.is_empty.ensures.1 e in cc)
    (rw (c.scope-scope.ensures, c.etag-seen.ensures) at c.in_ok-taken.ensures.more)
    (c.etag_after-etag.ensures ∙ ap (λ rows. cond c.in_ok-taken.more (last_of 0 rows) (last S)) c.as_slice.ensures)
    c.cleaned-cleaned.ensures

pub returns-clause-maps : goal.returns-clause-maps
returns-clause-maps g c =
    let v = c.args.index.now.version in
    subst (λ rows. c.after.new.steps.maps ≤ c.args.steps.now.maps + length (touched_documents v rows))
    (c.as_slice-2.ensures ∙ c.in_ok-taken.ensures.rows ∙ λ i. batch_rows (c.scope-scope.ensures i) (c.etag-seen.ensures i) c.args.store.now c.args.max)
    (subst (λ n. c.after.new.steps.maps ≤ n + length (touched_documents v c.as_slice-2.result.now)) c.in_ok-taken.ensures.maps c.in_ok-next.ensures.maps)

pub returns-in_err-taken-clause-reads : goal.returns-in_err-taken-clause-reads
returns-in_err-taken-clause-reads g c =
    read_of c.args.index.now.version c.args.store.now c.scope-scope.result.now c.etag-seen.result c.args.max _ _ c.scope-scope.ensures c.etag-seen.ensures c.rows_after.ensures.reads

pub returns-then-is_empty-clause-reads : goal.returns-then-is_empty-clause-reads
returns-then-is_empty-clause-reads g c =
    read_of c.args.index.now.version c.args.store.now c.scope-scope.result.now c.etag-seen.result c.args.max _ _ c.scope-scope.ensures c.etag-seen.ensures c.in_ok-taken.ensures.reads

pub returns-in_err-next-clause-reads : goal.returns-in_err-next-clause-reads
returns-in_err-next-clause-reads g c =
    let v = c.args.index.now.version in
    subst (λ n. n ≤ c.args.steps.now.reads + (length (batch_rows (reads v) v.etag c.args.store.now c.args.max) + 1) * length (reads v)) (sym c.after.ensures.reads)
    (read_of v c.args.store.now c.scope-scope.result.now c.etag-seen.result c.args.max _ _ c.scope-scope.ensures c.etag-seen.ensures c.in_ok-taken.ensures.reads)

pub returns-clause-reads : goal.returns-clause-reads
returns-clause-reads g c =
    let v = c.args.index.now.version in
    subst (λ n. n ≤ c.args.steps.now.reads + (length (batch_rows (reads v) v.etag c.args.store.now c.args.max) + 1) * length (reads v)) (sym c.in_ok-next.ensures.reads)
    (read_of v c.args.store.now c.scope-scope.result.now c.etag-seen.result c.args.max _ _ c.scope-scope.ensures c.etag-seen.ensures c.in_ok-taken.ensures.reads)

pub returns-in_err-taken-clause-idle : goal.returns-in_err-taken-clause-idle
returns-in_err-taken-clause-idle g c = λ fresh. absurd (
    let behind = told c.args.index.now.version c.args.store.now c.scope-scope.result.now c.etag-seen.result c.stale.result true c.scope-scope.ensures c.etag-seen.ensures c.stale.ensures (c.if-not-stale.false) in
    cc
    )

pub returns-then-is_empty-clause-idle : goal.returns-then-is_empty-clause-idle
returns-then-is_empty-clause-idle g c = λ fresh. absurd (
    let behind = told c.args.index.now.version c.args.store.now c.scope-scope.result.now c.etag-seen.result c.stale.result true c.scope-scope.ensures c.etag-seen.ensures c.stale.ensures (c.if-not-stale.false) in
    cc
    )

pub returns-in_err-next-clause-plain : goal.returns-in_err-next-clause-plain
returns-in_err-next-clause-plain g c = λ none. c.after.ensures.plain none ∙ c.in_ok-taken.ensures.merges

pub returns-clause-plain : goal.returns-clause-plain
returns-clause-plain g c = λ none. c.in_ok-next.ensures.plain none ∙ c.in_ok-taken.ensures.merges

pub returns-then-is_empty-clause-merges : goal.returns-then-is_empty-clause-merges
returns-then-is_empty-clause-merges g c = λ h one store agrees small small_too. let same = c.in_ok-taken.ensures.merges in omega (arith, same)

pub returns-clause-merges : goal.returns-clause-merges
returns-clause-merges g c = λ h one store agrees small small_too.
    let v = c.args.index.now.version in
    let m = mapper_of v.definition in
    let rows : c.as_slice-2.result.now ≡ batch_rows (reads v) v.etag c.args.store.now c.args.max = c.as_slice-2.ensures ∙ c.in_ok-taken.ensures.rows ∙ λ i. batch_rows (c.scope-scope.ensures i) (c.etag-seen.ensures i) c.args.store.now c.args.max in
    let keeps = subst (KeepCollections m v.table) (sym rows) (keeps_collections v c.args.store.now c.args.max store agrees) in
    subst (λ rs. c.after.new.steps.merges ≤ c.args.steps.now.merges + 128 * length (touched m v.table rs) * (h + 1)) rows
    (subst (λ n. c.after.new.steps.merges ≤ n + 128 * length (touched m v.table c.as_slice-2.result.now) * (h + 1)) c.in_ok-taken.ensures.merges (c.in_ok-next.ensures.merges h one keeps small small_too))
