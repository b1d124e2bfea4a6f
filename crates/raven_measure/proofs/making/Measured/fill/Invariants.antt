use Rattle.std.proofs.Common.{◌≡◌, ◌*◌, ◌++◌}
use Rattle.spec_measure.specs.Draws.{draw}
use Rattle.spec_measure.specs.Requests.{requests}
use Rattle.raven_measure.specs.Defining.{requests_view}
use Rattle.raven_measure.specs.Doing.{Does}
use Rattle.raven_measure.specs.OptionsView.{options_view}
use Rattle.raven_measure.proofs.making.Measured.fill.Given as goal

abbrev pub invariant-loop-earlier : goal.invariant-loop-earlier
invariant-loop-earlier g l = record {
  filled : Does (g.C.Clock.moment l.fn.clock) l.fn.self (requests_view l.fn.definition ++ requests (options_view l.fn.options) l.earlier) l.self;
  draws : l.draws ≡ draw l.fn.options.seed (3 * l.earlier);
}
