use Rattle.std.proofs.Common.{◌∷◌, List, length, refl, sym, ap, ◌∙◌, subst, arith}
use Rattle.std.proofs.Common.{inl}
use Rattle.std.specs.Vec.Iter.{into_iter_items}
use Rattle.spec_server.specs.Courses.{Change}
use Rattle.spec_desk.specs.Stepped.{MakesOne}
use Rattle.spec_desk.proofs.Making.{Going, begins, goes_on, lacks_part, stops, stops_part}
use Rattle.raven_desk.proofs.Changes.{on_err, stopped_as}
use Rattle.raven_desk.proofs.live.Live.settle.Given.{Over}
use Rattle.raven_desk.proofs.live.Live.settle.Goals as goal
use Rattle.raven_desk.proofs.live.Live.settle.Goals.{In-Some}

pub loop-change-init : goal.loop-change-init
loop-change-init g c =
    let x = c.args.self.now in
    let all = c.args.changes.items in
    let same = c.into_iter-change-iterator.ensures.into_iter_gives.0 in
    record {
      going = subst (λ (l : List Change). Going x all l x) (sym same) (begins x all c.requires.may);
      left = c.into_iter-change-iterator.ensures.into_iter_gives.1 ∙ c.args.changes.ok.0 ∙ ap length (sym same);
      counted = c.faults-before.ensures;
    }

-- the change is the first of those that are left
going : (g : Over) (c : In-Some g) → Going c.args.self.now c.args.changes.items (c.in-Some.change ∷ into_iter_items c.next.new.self) c.loop-change.self
going g c = subst (λ (l : List Change). Going c.args.self.now c.args.changes.items l c.loop-change.self) c.in-Some.ensures.steps.0 c.loop-change.invariant.going

pub make-requires : goal.make-requires
make-requires g c = let first = going g (goal.at.make-requires g c).In-Some in record { rows = first.rows.0; sound = first.sound c.in-Some.change (inl refl) }

pub loop-change-preserved : goal.loop-change-preserved
loop-change-preserved g c =
    let x = c.args.self.now in
    let here = c.loop-change.self in
    let z = c.make.new.self in
    let made = subst (λ taken. MakesOne here c.in-Some.change taken z) c.if-not-branch.false c.in_ok-make.ensures.made in
    record {
      going = goes_on x c.args.changes.items c.in-Some.change (into_iter_items c.next.new.self) here z (going g (goal.at.loop-change-preserved g c).In-Some) made c.make.ensures.later;
      left = let was = c.loop-change.invariant.left in let gone = c.in-Some.ensures.steps.1 in omega arith;
      counted = c.loop-change.invariant.counted;
    }

-- the keeper did not take the rows of the change
pub returns-then-not-branch-clause-settled : goal.returns-then-not-branch-clause-settled
returns-then-not-branch-clause-settled g c =
    let x = c.args.self.now in
    let here = c.loop-change.self in
    let z = c.make.new.self in
    let made = subst (λ taken. MakesOne here c.in-Some.change taken z) c.if-not-branch.true c.in_ok-make.ensures.made in
    stopped_as c.args.changes.items x z c.faults-before.result c.faults-after.result c.faults-before.ensures c.faults-after.ensures
    (stops x c.args.changes.items c.in-Some.change (into_iter_items c.next.new.self) here z (going g (goal.at.returns-then-not-branch-clause-settled g c).In-Some) made)

pub returns-then-not-branch-clause-halted : goal.returns-then-not-branch-clause-halted
returns-then-not-branch-clause-halted g c = λ halted.
    let x = c.args.self.now in
    let here = c.loop-change.self in
    let z = c.make.new.self in
    let made = subst (λ taken. MakesOne here c.in-Some.change taken z) c.if-not-branch.true c.in_ok-make.ensures.made in
    stops_part x c.args.changes.items c.in-Some.change (into_iter_items c.next.new.self) here z (going g (goal.at.returns-then-not-branch-clause-halted g c).In-Some) made

-- memory ran out
pub returns-in_err-make-clause-lacks : goal.returns-in_err-make-clause-lacks
returns-in_err-make-clause-lacks g c =
    let x = c.args.self.now in
    let here = c.loop-change.self in
    let z = c.make.new.self in
    on_err c.from_residual.result _
    (lacks_part x c.args.changes.items c.in-Some.change (into_iter_items c.next.new.self) here z (going g (goal.at.returns-in_err-make-clause-lacks g c).In-Some)
    c.in_err-make.ensures.asks c.in_err-make.ensures.err)

-- no front comes to its end
pub returns-clause-fronts : goal.returns-clause-fronts
returns-clause-fronts g c = c.loop-change.invariant.going.fronts

pub returns-then-not-branch-clause-fronts : goal.returns-then-not-branch-clause-fronts
returns-then-not-branch-clause-fronts g c = c.make.ensures.fronts ∙ c.loop-change.invariant.going.fronts

pub returns-in_err-make-clause-fronts : goal.returns-in_err-make-clause-fronts
returns-in_err-make-clause-fronts g c = c.make.ensures.fronts ∙ c.loop-change.invariant.going.fronts
