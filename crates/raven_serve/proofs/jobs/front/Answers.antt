use Rattle.raven_serve.proofs.Fronting.{front_done, front_pass}
use Rattle.raven_serve.proofs.jobs.front.Goals as goal

pub returns-clause-front : goal.returns-clause-front
returns-clause-front g c =
    let w = c.with.ensures in
    front_done (g.C.Clock.moment c.args.site.clock.value) c.args.site.name c.args.pass c.finish-pass.result c.with.new.pass c.new-answers.result c.calls-failed.new.answerer c.new-desk.result c.finish-desk.result
    (g.D.Door.state c.args.door) (g.D.Door.state c.calls-failed.new.door) c.calls-failed.result w.0 w.1 c.new-desk.ensures c.new-answers.ensures c.finish-desk.ensures c.finish-pass.ensures c.calls-failed.ensures.runs w.2 w.3 w.4 w.5.2

pub returns-clause-pass : goal.returns-clause-pass
returns-clause-pass g c =
    let w = c.with.ensures in
    front_pass (g.C.Clock.moment c.args.site.clock.value) c.args.site.name c.args.pass c.finish-pass.result c.with.new.pass c.new-answers.result c.calls-failed.new.answerer c.new-desk.result c.finish-desk.result c.new-desk.ensures
    c.new-answers.ensures c.finish-desk.ensures c.finish-pass.ensures c.calls-failed.ensures.kept (w.5.0, w.5.1)
