use Rattle.std.proofs.Common.{◌≡◌, ◌∙◌, ap, sym, refl, subst, arith}
use Rattle.std.specs.Prelude.{option_map, map, ◌||◌}
use Rattle.std.specs.Vec.Iter.{into_iter_items}
use Rattle.raven_serve.specs.Works.{Report}
use Rattle.raven_serve.proofs.Joining.{belongs_tail, doors_all, doors_none, doors_some, failed_step, join_step, map_more}
use Rattle.raven_serve.proofs.jobsets.gather.Goals as goal

pub loop-out-preserved-in-Some-door : goal.loop-out-preserved-in-Some-door
loop-out-preserved-in-Some-door g c =
    let was = c.loop-out.invariant in
    let steps = c.in-Some.ensures.steps in
    let step = steps.0 in
    let items = c.args.outs.items in
    let before = into_iter_items c.loop-out.out-iterator in
    let after = into_iter_items c.next.new.self in
    let o = c.in-Some.out in
    let pass : c.out.inside.pass ≡ o.pass = ap (λ (r : Report). r.pass) c.out.view_is in
    let bad : c.out.inside.failed ≡ o.failed = ap (λ (r : Report). r.failed) c.out.view_is in
    let door : option_map g.D.Door.state c.out.inside.door ≡ o.door = ap (λ (r : Report). r.door) c.out.view_is in
    record {
      can = tt;
      finite = tt;
      own = c.join-all.ensures.0 ∙ was.own;
      outs = belongs_tail c.args.turn.now.turn before after o was.outs step;
      pass = join_step c.args.rest c.loop-out.all c.join-all.result items before after o c.out.inside.pass was.pass step pass c.join-all.ensures;
      doors = doors_some items before after o (map g.D.Door.state c.loop-out.doors.items) (map g.D.Door.state c.push_reserved.new.self.items) (g.D.Door.state c.in-Some-door.door) was.doors step
          (sym door ∙ ap (option_map g.D.Door.state) c.in-Some-door.is) (ap (map g.D.Door.state) c.push_reserved.ensures.items ∙ map_more g.D.Door.state c.loop-out.doors.items c.in-Some-door.door);
      failed = failed_step items before after o c.loop-out.any c.either-any.result was.failed step (c.either-any.ensures ∙ ap (λ b. c.loop-out.any || b) bad);
      room = omega (arith, was.room, steps.1, c.push_reserved.ensures.len, c.push_reserved.ensures.capacity);
    }

pub loop-out-preserved : goal.loop-out-preserved
loop-out-preserved g c =
    let was = c.loop-out.invariant in
    let steps = c.in-Some.ensures.steps in
    let step = steps.0 in
    let items = c.args.outs.items in
    let before = into_iter_items c.loop-out.out-iterator in
    let after = into_iter_items c.next.new.self in
    let o = c.in-Some.out in
    let pass : c.out.inside.pass ≡ o.pass = ap (λ (r : Report). r.pass) c.out.view_is in
    let bad : c.out.inside.failed ≡ o.failed = ap (λ (r : Report). r.failed) c.out.view_is in
    let door : option_map g.D.Door.state c.out.inside.door ≡ o.door = ap (λ (r : Report). r.door) c.out.view_is in
    record {
      can = tt;
      finite = tt;
      own = c.join-all.ensures.0 ∙ was.own;
      outs = belongs_tail c.args.turn.now.turn before after o was.outs step;
      pass = join_step c.args.rest c.loop-out.all c.join-all.result items before after o c.out.inside.pass was.pass step pass c.join-all.ensures;
      doors = doors_none items before after o (map g.D.Door.state c.loop-out.doors.items) was.doors step (sym door ∙ ap (option_map g.D.Door.state) c.in_default.is);
      failed = failed_step items before after o c.loop-out.any c.either-any.result was.failed step (c.either-any.ensures ∙ ap (λ b. c.loop-out.any || b) bad);
      room = omega (arith, was.room, steps.1);
    }

pub returns-clause-doors : goal.returns-clause-doors
returns-clause-doors g c = doors_all c.args.outs.items (into_iter_items c.loop-out.out-iterator) (map g.D.Door.state c.loop-out.doors.items) c.loop-out.invariant.doors
    (omega (arith, c.loop-out.out-iterator.rest.ok.0, c.in-None.ensures.steps))
