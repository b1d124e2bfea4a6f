use Rattle.std.proofs.Common.{subst, sym}
use Rattle.doc_txn.specs.SettingView.{setting_of}
use Rattle.index_lang.specs.Openings.{OpensAs}
use Rattle.spec_index.specs.World.{World}
use Rattle.spec_server.specs.Machine.{machine_of}
use Rattle.spec_server.specs.Options.{setting_with}
use Rattle.raven_desk.proofs.Opened.{keeps_from, opens}
use Rattle.raven_desk.proofs.opening.load_world.Goals as goal

pub returns-in-Ok-open-clause-keeps : goal.returns-in-Ok-open-clause-keeps
returns-in-Ok-open-clause-keeps g c =
    let held = (g.K.Keeper.state c.args.keeper.now).held in
    let world = c.in_ok-of-in-Ok-open.field-0 in
    keeps_from (setting_with c.args.base) held (g.K.Keeper.state c.load.new.keeper).held (machine_of world) c.load.ensures.same
    (opens c.args.base c.program-limits.result held c.in-Ok.loaded.0 (machine_of world) c.program-limits.ensures c.in-Ok.ensures.ok
    (subst (λ (W : World). OpensAs (setting_of c.args.base c.program-limits.result) c.in-Ok.loaded.0 (machine_of W)) (sym c.in_ok-of-in-Ok-open.ensures) c.in-Ok-open.ensures.opened))
