use Rattle.std.proofs.Common.{◌≡◌, [], ◌∷◌, arith, subst, sym, ◌∙◌}
use Rattle.std.proofs.lemmas.Result.{err_from_is_err_and}
use Rattle.spec_measure.specs.Requests.{index_name, pumping}
use Rattle.spec_server.specs.Requests.{Request}
use Rattle.spec_server.specs.Sound.{Sound}
use Rattle.spec_desk.specs.Lived.{Lived}
use Rattle.raven_measure.specs.Doing.{Does, Stops}
use Rattle.raven_measure.specs.OptionsView.{options_view}
use Rattle.raven_measure.proofs.Batches.{Moves, moves, pumped_more, pumped_none, pumped_short}
use Rattle.raven_measure.proofs.Behind.{behind-few}
use Rattle.raven_measure.proofs.Doing.{stops_at_once}
use Rattle.raven_measure.proofs.making.Measured.catch_up.Given.{Over}
use Rattle.raven_measure.proofs.making.Measured.catch_up.Goals as goal
use Rattle.raven_measure.proofs.making.Measured.catch_up.Goals.{In_ok-make}

pub loop-self-init : goal.loop-self-init
loop-self-init g c =
    let sound = subst (λ (x : Lived). Sound x.world) c.live.ensures c.world-world.ensures.sound in
    record {
      pumped = pumped_none (g.C.Clock.moment c.args.clock.now) (options_view c.args.options) c.args.self.now;
      few = let near = behind-few index_name c.args.self.now.live.world sound in let few = c.requires.few in omega arith;
      sound = sound;
    }

pub returns-in_err-pumping-clause-stopped : goal.returns-in_err-pumping-clause-stopped
returns-in_err-pumping-clause-stopped g c =
    let p = err_from_is_err_and c.from_residual.result c.from_residual.ensures.1 in
    let clock = g.C.Clock.moment c.args.clock.now in
    let o = options_view c.args.options in
    rw (p.1, p.2) (pumped_short clock o c.args.self.now c.loop-self.self c.loop-self.self _ c.loop-self.invariant.pumped (stops_at_once clock c.loop-self.self (pumping o) []))

pub returns-in_err-make-clause-stopped : goal.returns-in_err-make-clause-stopped
returns-in_err-make-clause-stopped g c =
    let p = err_from_is_err_and c.from_residual-in_err-make.result c.from_residual-in_err-make.ensures.1 in
    let clock = g.C.Clock.moment c.args.clock.now in
    rw (p.1, p.2) (pumped_short clock (options_view c.args.options) c.args.self.now c.loop-self.self c.make.new.self _ c.loop-self.invariant.pumped
    (subst (λ (r : Request). Stops clock c.loop-self.self (r ∷ []) c.make.new.self c.in_err-make.field-0.0) c.in_ok-pumping.ensures c.in_err-make.ensures.stopped))

-- the batch that was made
pumped : (g : Over) (c : In_ok-make g) → Does (g.C.Clock.moment c.args.clock.now) c.loop-self.self (pumping (options_view c.args.options) ∷ []) c.make.new.self
pumped g c =
    subst (λ (r : Request). Does (g.C.Clock.moment c.args.clock.now) c.loop-self.self (r ∷ []) c.make.new.self) c.in_ok-pumping.ensures c.in_ok-make.ensures.done

-- it moved the etag of the index
moved : (g : Over) (c : In_ok-make g) → (c.make.new.self.moved ≡ c.loop-self.self.moved → ⊥) → Moves c.loop-self.self c.make.new.self
moved g c differs =
    moves (g.C.Clock.moment c.args.clock.now) (options_view c.args.options) c.loop-self.self c.make.new.self (pumped g c) c.loop-self.invariant.sound differs

pub loop-self-smaller : goal.loop-self-smaller
loop-self-smaller g c =
    let m = moved g (goal.at.loop-self-smaller g c).In_ok-make (λ same. c.if-batches-before.false (c.batches.ensures ∙ same ∙ sym c.batches-before.ensures)) in m.closer

pub loop-self-preserved : goal.loop-self-preserved
loop-self-preserved g c =
    let made = (goal.at.loop-self-preserved g c).In_ok-make in
    let m = moved g made (λ same. c.if-batches-before.false (c.batches.ensures ∙ same ∙ sym c.batches-before.ensures)) in
    record {
      pumped = pumped_more (g.C.Clock.moment c.args.clock.now) (options_view c.args.options) c.args.self.now c.loop-self.self c.make.new.self c.loop-self.invariant.pumped (pumped g made);
      few = let more = m.moved in let closer = m.closer in let few = c.loop-self.invariant.few in omega arith;
      sound = m.sound;
    }
