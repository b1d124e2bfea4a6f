use Rattle.std.proofs.Common.{◌∙◌, ap, sym}
use Rattle.std.specs.BTreeMap.{get}
use Rattle.spec_data.specs.Kept.{KeptRow}
use Rattle.raven_ports.specs.Logged.{id_cmp}
use Rattle.raven_ports.proofs.LogLemmas.{noted}
use Rattle.raven_ports.proofs.log.last_etags.Goals as goal

pub loop-row-preserved : goal.loop-row-preserved
loop-row-preserved c = λ q.
    noted c.args.rows.now c.loop-row.row-index c.row-item.result (get id_cmp c.loop-row.etags q) _ q c.in_ok-clone.field-0 c.row.inside.etag c.loop-row-test.true (sym c.row-item.is)
    (c.in_ok-clone.ensures.cases ∙ ap (λ (x : KeptRow). x.id) c.row.view_is) (ap (λ (x : KeptRow). x.etag) c.row.view_is) (c.in_ok-insert.ensures.updates.0 q) (c.loop-row.invariant q)
