use Rattle.std.proofs.Common.{◌+◌, ◌≤◌, arith}
use Rattle.std.proofs.lemmas.Result.{IfErr-weaker, err_from_is_err_and, on_ok_weaker}
use Rattle.raven_measure.specs.OptionsView.{options_view}
use Rattle.raven_measure.proofs.Doing.{moved_few}
use Rattle.raven_measure.proofs.Filled.{does_order, few_deletions, stops_at_batch, stops_at_deletion, stops_at_order, stops_at_put, three_more}
use Rattle.raven_measure.proofs.making.Measured.with_order.Given.{Over}
use Rattle.raven_measure.proofs.making.Measured.with_order.Goals as goal
use Rattle.raven_measure.proofs.making.Measured.with_order.Goals.{In_ok-make}

pub returns-in_err-putting-clause-stopped : goal.returns-in_err-putting-clause-stopped
returns-in_err-putting-clause-stopped g c =
    let p = err_from_is_err_and c.from_residual.result c.from_residual.ensures.1 in
    rw (p.1, p.2) (stops_at_order (g.C.Clock.moment c.args.clock.now) c.args.self.now (options_view c.args.options) c.args.earlier)

pub returns-in_err-make-clause-stopped : goal.returns-in_err-make-clause-stopped
returns-in_err-make-clause-stopped g c =
    let p = err_from_is_err_and c.from_residual-in_err-make.result c.from_residual-in_err-make.ensures.1 in
    rw (p.1, p.2) (stops_at_put (g.C.Clock.moment c.args.clock.now) c.args.self.now c.make.new.self (options_view c.args.options) c.args.earlier c.args.draws.now _ _
    c.in_ok-putting.ensures.put c.requires.drawn c.in_err-make.ensures.stopped)

-- the order that was put counts at most once
put_few : (g : Over) (c : In_ok-make g) → c.make.new.self.moved ≤ c.args.self.now.moved + 1
put_few g c = moved_few (g.C.Clock.moment c.args.clock.now) c.args.self.now c.make.new.self _ c.in_ok-make.ensures.done

pub delete_after-requires-clause-room : goal.delete_after-requires-clause-room
delete_after-requires-clause-room g c =
    let put = put_few g (goal.at.delete_after-requires-clause-room g c).In_ok-make in
    let room = c.requires.room in
    omega arith

pub returns-in_err-delete_after-clause-stopped : goal.returns-in_err-delete_after-clause-stopped
returns-in_err-delete_after-clause-stopped g c =
    let p = err_from_is_err_and c.from_residual-in_err-delete_after.result c.from_residual-in_err-delete_after.ensures.1 in
    rw (p.1, p.2) (stops_at_deletion (g.C.Clock.moment c.args.clock.now) c.args.self.now c.make.new.self c.delete_after.new.self (options_view c.args.options) c.args.earlier c.args.draws.now _ _
    c.in_ok-putting.ensures.put c.requires.drawn c.in_ok-make.ensures.done c.in_err-delete_after.ensures.stopped)

pub pump_after-requires-clause-room : goal.pump_after-requires-clause-room
pump_after-requires-clause-room g c =
    let put = put_few g (goal.at.pump_after-requires-clause-room g c).In_ok-make in
    let deleted = moved_few (g.C.Clock.moment c.args.clock.now) c.make.new.self c.delete_after.new.self _ c.in_ok-delete_after.ensures.done in
    let one = few_deletions (c.args.earlier + 1) in
    let room = c.requires.room in
    λ _. omega arith

pub returns-clause-done : goal.returns-clause-done
returns-clause-done g c =
    on_ok_weaker c.pump_after.result
    (λ pumped. does_order (g.C.Clock.moment c.args.clock.now) c.args.self.now c.make.new.self c.delete_after.new.self c.pump_after.new.self (options_view c.args.options) c.args.earlier
    c.args.draws.now _ c.in_ok-putting.ensures.put c.requires.drawn c.in_ok-make.ensures.done c.in_ok-delete_after.ensures.done pumped)
    c.pump_after.ensures.done

pub returns-clause-stopped : goal.returns-clause-stopped
returns-clause-stopped g c =
    IfErr-weaker c.pump_after.result _ _
    (λ why stops. stops_at_batch (g.C.Clock.moment c.args.clock.now) c.args.self.now c.make.new.self c.delete_after.new.self c.pump_after.new.self (options_view c.args.options) c.args.earlier
    c.args.draws.now _ why c.in_ok-putting.ensures.put c.requires.drawn c.in_ok-make.ensures.done c.in_ok-delete_after.ensures.done stops)
    c.pump_after.ensures.stopped

pub returns-clause-draws : goal.returns-clause-draws
returns-clause-draws g c =
    on_ok_weaker c.pump_after.result
    (λ pumped. three_more c.args.options.seed c.args.earlier c.args.draws.now c.putting.new.draws c.requires.drawn c.in_ok-putting.ensures.draws) c.pump_after.ensures.done
