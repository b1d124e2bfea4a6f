use Rattle.std.proofs.Common.{◌+◌, ◌<◌, ◌^◌}
use Rattle.spec_measure.specs.Requests.{index_name}
use Rattle.spec_server.specs.Sound.{Sound}
use Rattle.raven_measure.specs.OptionsView.{options_view}
use Rattle.raven_measure.proofs.Batches.{HasPumped}
use Rattle.raven_measure.proofs.Behind.{behind}
use Rattle.raven_measure.proofs.making.Measured.catch_up.Given as goal

abbrev pub invariant-loop-self : goal.invariant-loop-self
invariant-loop-self g l = record {
  pumped : HasPumped (g.C.Clock.moment l.fn.clock) (options_view l.fn.options) l.fn.self l.self;
  few : l.self.moved + behind index_name l.self.live.world < 2 ^ 60;
  sound : Sound l.self.live.world;
}

abbrev pub decreases-loop-self : goal.decreases-loop-self
decreases-loop-self g l = behind index_name l.self.live.world
