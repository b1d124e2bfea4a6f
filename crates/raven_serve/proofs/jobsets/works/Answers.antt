use Rattle.std.proofs.Common.{◌≡◌, ◌∙◌, ◌++◌, ◌∷◌, [], ap, sym, refl, arith}
use Rattle.std.specs.Prelude.{Some, None, map}
use Rattle.std.specs.Vec.Iter.{into_iter_items}
use Rattle.raven_serve.specs.Works.{Post, places, posts}
use Rattle.raven_serve.proofs.Joining.{posts_front, posts_pump, same_post, took_one}
use Rattle.raven_serve.proofs.jobsets.works.Goals as goal

pub loop-door-preserved : goal.loop-door-preserved
loop-door-preserved g c =
    let was = c.loop-door.invariant in
    let step = c.in-Some.ensures.steps in
    let clock = g.C.Clock.moment c.args.site.now.clock.value in
    let name = c.args.site.now.name in
    let r = c.in_ok-work.ensures.rest in
    let p = c.args.rest.now in
    record {
      can = tt;
      finite = tt;
      works = c.in_ok-push.ensures.items ∙ ap (λ l. l ++ c.in_ok-work.work ∷ []) was.works
          ∙ ap (λ (w : Post). posts p clock name (places (map g.D.Door.state c.loop-door.yielded) 0) ++ w ∷ []) (c.in_ok-work.ensures.work ∙ same_post p c.loop-door.rest clock name (Some (g.D.Door.state c.in-Some.door)) was.turn was.seen)
          ∙ sym (posts_front p clock name g.D.Door.state c.loop-door.yielded c.in-Some.door);
      all = took_one c.args.doors.items c.loop-door.yielded (into_iter_items c.loop-door.door-iterator) (into_iter_items c.next.new.self) c.in-Some.door was.all step.0;
      own = r.0 ∙ was.own;
      turn = r.0 ∙ was.turn;
      shares = omega (arith, was.shares, step.1, r.1);
      seen = r.2 ∙ was.seen;
      made = r.3 ∙ was.made;
    }

pub loop-begin-preserved : goal.loop-begin-preserved
loop-begin-preserved g c =
    let was = c.loop-begin.invariant in
    let clock = g.C.Clock.moment c.args.site.now.clock.value in
    let name = c.args.site.now.name in
    let r = c.in_ok-work-2.ensures.rest in
    let p = c.args.rest.now in
    record {
      works = c.in_ok-push-2.ensures.items ∙ ap (λ l. l ++ c.in_ok-work-2.work ∷ []) was.works
          ∙ ap (λ (w : Post). posts p clock name (places (map g.D.Door.state c.args.doors.items) c.loop-begin.begin) ++ w ∷ []) (c.in_ok-work-2.ensures.work ∙ same_post p c.loop-begin.rest clock name None was.turn was.seen)
          ∙ sym (posts_pump p clock name (map g.D.Door.state c.args.doors.items) c.loop-begin.begin);
      own = r.0 ∙ was.own;
      turn = r.0 ∙ was.turn;
      shares = omega (arith, was.shares, r.1);
      seen = r.2 ∙ was.seen;
      made = r.3 ∙ was.made;
    }
