use Rattle.std.proofs.Common.{true, false}
use Rattle.raven_serve.proofs.Chaining.{begins, ends, goes_on}
use Rattle.raven_serve.proofs.calls.calls.Goals as goal

pub loop-init : goal.loop-init
loop-init g c = record {
  can = tt;
  finite = tt;
  going = begins g.A.Answering.answers g.A.Answering.keeps c.args.answerer.now (g.D.Door.state c.args.door.now);
  kept = g.met.A.Answering.keeps_none c.args.answerer.now;
}

pub returns-in-Closed-clause-runs : goal.returns-in-Closed-clause-runs
returns-in-Closed-clause-runs g c =
    let n = c.in-Closed.ensures.next in
    ends g.A.Answering.answers g.A.Answering.keeps c.args.answerer.now (g.D.Door.state c.args.door.now) c.loop.answerer (g.D.Door.state c.loop.door) false c.serve_next.new.answerer (g.D.Door.state c.serve_next.new.door)
    c.loop.invariant.going n.1 n.0

pub returns-in-Closed-clause-kept : goal.returns-in-Closed-clause-kept
returns-in-Closed-clause-kept g c = g.met.A.Answering.keeps_more c.args.answerer.now c.loop.answerer c.serve_next.new.answerer c.loop.invariant.kept c.serve_next.ensures.kept

pub returns-in-DoorFault-clause-runs : goal.returns-in-DoorFault-clause-runs
returns-in-DoorFault-clause-runs g c =
    let n = c.in-DoorFault.ensures.next in
    ends g.A.Answering.answers g.A.Answering.keeps c.args.answerer.now (g.D.Door.state c.args.door.now) c.loop.answerer (g.D.Door.state c.loop.door) true c.serve_next.new.answerer (g.D.Door.state c.serve_next.new.door)
    c.loop.invariant.going n.1 n.0

pub returns-in-DoorFault-clause-kept : goal.returns-in-DoorFault-clause-kept
returns-in-DoorFault-clause-kept g c = g.met.A.Answering.keeps_more c.args.answerer.now c.loop.answerer c.serve_next.new.answerer c.loop.invariant.kept c.serve_next.ensures.kept

pub loop-preserved : goal.loop-preserved
loop-preserved g c = record {
  can = tt;
  finite = tt;
  going = goes_on g.A.Answering.answers g.A.Answering.keeps c.args.answerer.now (g.D.Door.state c.args.door.now) c.loop.answerer (g.D.Door.state c.loop.door) c.in-Served.field-0 c.serve_next.new.answerer
      (g.D.Door.state c.serve_next.new.door) c.loop.invariant.going c.in-Served.ensures.next;
  kept = g.met.A.Answering.keeps_more c.args.answerer.now c.loop.answerer c.serve_next.new.answerer c.loop.invariant.kept c.serve_next.ensures.kept;
}
