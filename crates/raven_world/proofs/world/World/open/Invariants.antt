use Rattle.doc_txn.specs.SettingView.{setting_of}
use Rattle.raven_world.specs.Opened.{HasRead}
use Rattle.raven_world.proofs.world.World.open.Given as goal

-- the rows so far are read, and give the slots so far
abbrev pub invariant-loop-count : goal.invariant-loop-count
invariant-loop-count l = HasRead (setting_of l.fn.base l.limits) l.rows l.count l.slots.items
