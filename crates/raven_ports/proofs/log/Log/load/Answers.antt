use Rattle.std.proofs.Common.{◌∙◌, ap}
use Rattle.std.proofs.lemmas.Result.{IfOk-weaker}
use Rattle.spec_data.specs.Kept.{kept_after}
use Rattle.raven_ports.proofs.KeptLemmas.{loaded_rises}
use Rattle.raven_ports.proofs.LogLemmas.{held_rises}
use Rattle.raven_ports.proofs.log.Log.load.Goals as goal

pub returns-in_err-compact-clause-order : goal.returns-in_err-compact-clause-order
returns-in_err-compact-clause-order c = held_rises c.args.self.now.compacted c.args.self.now.rows.items c.requires

pub returns-clause-rising : goal.returns-clause-rising
returns-clause-rising c =
    IfOk-weaker c.first_past.result _ _
    (λ found is. loaded_rises c.args.after c.args.max c.compact.new.self.rows.items found c.compact.ensures.rising (is ∙ ap (kept_after c.args.after c.args.max) c.deref.ensures.value))
    c.first_past.ensures
