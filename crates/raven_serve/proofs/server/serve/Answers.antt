use Rattle.std.proofs.Common.{Some, subst, sym}
use Rattle.std.specs.Prelude.{map}
use Rattle.raven_serve.specs.Finishing.{EndsSo, server}
use Rattle.raven_serve.specs.declared.ends.ServeEnd.{ServeEnd}
use Rattle.raven_serve.proofs.Ending.{unopened}
use Rattle.raven_serve.proofs.server.serve.Goals as goal

pub returns-in-Err-clause-ends : goal.returns-in-Err-clause-ends
returns-in-Err-clause-ends g c =
    let s = server c.args.serving.base c.args.serving.name (g.C.Clock.moment c.args.clock.value) (g.K.Keeper.state c.args.keeper) (map g.D.Door.state c.args.doors.items) in
    subst (λ (e : ServeEnd). EndsSo e s (Some (g.K.Keeper.state c.in-Err.unopened.keeper)) (map g.D.Door.state c.args.doors.items)) (sym c.end_unopened-end.ensures)
    (unopened s c.in-Err.unopened.fault (g.K.Keeper.state c.in-Err.unopened.keeper) c.in-Err.ensures.bad c.in-Err.ensures.fault c.in-Err.ensures.unopened)
