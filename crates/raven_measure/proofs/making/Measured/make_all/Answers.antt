use Rattle.std.proofs.Common.{arith}
use Rattle.std.proofs.lemmas.Result.{IfErr-weaker, err_from_is_err_and, on_ok_weaker}
use Rattle.raven_measure.specs.Defining.{requests_view}
use Rattle.raven_measure.specs.OptionsView.{options_view}
use Rattle.raven_measure.proofs.Filled.{filled_few, measured, stops_filling, stops_pumping}
use Rattle.raven_measure.proofs.making.Measured.make_all.Goals as goal

pub returns-in_err-fill-clause-stopped : goal.returns-in_err-fill-clause-stopped
returns-in_err-fill-clause-stopped g c =
    let p = err_from_is_err_and c.from_residual.result c.from_residual.ensures.1 in
    rw (p.1, p.2) (stops_filling (g.C.Clock.moment c.args.clock.now) (options_view c.args.options) (requests_view c.args.definition) c.args.self.now c.fill.new.self _ c.in_err-fill.ensures.stopped)

pub catch_up-requires-clause-few : goal.catch_up-requires-clause-few
catch_up-requires-clause-few g c =
    let few = filled_few (g.C.Clock.moment c.args.clock.now) (options_view c.args.options) c.args.options.docs c.args.definition c.args.self.now c.fill.new.self c.in_ok-fill.ensures.done in
    let none = c.requires.none in
    λ _. omega arith

pub returns-clause-stopped : goal.returns-clause-stopped
returns-clause-stopped g c =
    IfErr-weaker c.catch_up.result _ _
    (λ why stops. stops_pumping (g.C.Clock.moment c.args.clock.now) (options_view c.args.options) (requests_view c.args.definition) c.args.self.now c.fill.new.self c.catch_up.new.self why
    c.in_ok-fill.ensures.done stops)
    c.catch_up.ensures.stopped

pub returns-clause-done : goal.returns-clause-done
returns-clause-done g c =
    on_ok_weaker c.catch_up.result
    (λ catches. measured (g.C.Clock.moment c.args.clock.now) (options_view c.args.options) (requests_view c.args.definition) c.args.self.now c.fill.new.self c.catch_up.new.self
    c.in_ok-fill.ensures.done catches)
    c.catch_up.ensures.done
