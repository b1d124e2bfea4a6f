use Rattle.std.proofs.Common.{◌<◌, arith}
use Rattle.std.proofs.lemmas.Result.{err_from_is_err_and}
use Rattle.spec_measure.specs.Requests.{requests}
use Rattle.raven_measure.specs.Defining.{requests_view}
use Rattle.raven_measure.specs.OptionsView.{options_view}
use Rattle.raven_measure.proofs.Doing.{stops_before}
use Rattle.raven_measure.proofs.Filled.{filled_few, filled_more, filled_short}
use Rattle.raven_measure.proofs.making.Measured.fill.Goals as goal

pub returns-in_err-define-clause-stopped : goal.returns-in_err-define-clause-stopped
returns-in_err-define-clause-stopped g c =
    let p = err_from_is_err_and c.from_residual.result c.from_residual.ensures.1 in
    let o = options_view c.args.options in
    rw (p.1, p.2) (stops_before (g.C.Clock.moment c.args.clock.now) c.args.self.now c.define.new.self (requests_view c.args.definition) (requests o o.docs) _ c.in_err-define.ensures.stopped)

pub with_order-requires-clause-room : goal.with_order-requires-clause-room
with_order-requires-clause-room g c =
    let few = filled_few (g.C.Clock.moment c.args.clock.now) (options_view c.args.options) c.loop-earlier.earlier c.args.definition c.args.self.now c.loop-earlier.self c.loop-earlier.invariant.filled in
    let none = c.requires.none in
    omega arith

pub returns-in_err-with_order-clause-stopped : goal.returns-in_err-with_order-clause-stopped
returns-in_err-with_order-clause-stopped g c =
    let p = err_from_is_err_and c.from_residual-in_err-with_order.result c.from_residual-in_err-with_order.ensures.1 in
    let within : c.loop-earlier.earlier < c.args.options.docs = omega arith in
    rw (p.1, p.2) (filled_short (g.C.Clock.moment c.args.clock.now) (options_view c.args.options) c.loop-earlier.earlier c.args.options.docs (requests_view c.args.definition) c.args.self.now
    c.loop-earlier.self c.with_order.new.self _ within c.loop-earlier.invariant.filled c.in_err-with_order.ensures.stopped)

pub loop-earlier-preserved : goal.loop-earlier-preserved
loop-earlier-preserved g c = record {
  filled = filled_more (g.C.Clock.moment c.args.clock.now) (options_view c.args.options) c.loop-earlier.earlier (requests_view c.args.definition) c.args.self.now c.loop-earlier.self
      c.with_order.new.self c.loop-earlier.invariant.filled c.in_ok-with_order.ensures.done;
  draws = c.in_ok-with_order.ensures.draws;
}
