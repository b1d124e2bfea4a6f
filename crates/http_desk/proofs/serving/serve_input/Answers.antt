use Rattle.std.proofs.Common.{sym, subst}
use Rattle.http_desk.specs.ProgramSessions.{EndsSo, Session, devices_of}
use Rattle.http_desk.specs.declared.serving.ServeEnd.{ServeEnd}
use Rattle.http_desk.proofs.Ends.{ends-so, serves}
use Rattle.http_desk.proofs.serving.serve_input.Goals as goal

pub returns-clause-ends : goal.returns-clause-ends
returns-clause-ends g c =
    let session : Session = record {
      base = c.args.serving.base;
      name = c.args.serving.name;
      pump = c.args.serving.pump;
      clock = g.C.Clock.moment c.args.clock.value;
      before = devices_of (g.S.Source.state c.args.input.now) (g.O.Sink.state c.args.output.now) (g.K.Keeper.state c.args.keeper);
      after = devices_of (g.S.Source.state c.serve_alone-why.new.source) (g.O.Sink.state c.serve_alone-why.new.sink) (g.K.Keeper.state c.into_keeper-keeper.result);
    } in
    let o = c.in-Ok-open.ensures in
    let e = c.serve_alone-why.ensures in
    let k = c.into_keeper-keeper.ensures in
    subst (λ (end : ServeEnd). EndsSo end session) (sym c.end_of-end.ensures)
    (ends-so session c.serve_alone-why.result.0
    (serves session c.serve_alone-why.result.0 c.in-Ok-open.live c.new-desk.result c.serve_alone-why.result.1 c.finish.result c.new-desk.ensures c.finish.ensures o.opens o.loads o.fronts e.served e.kept k.keeper k.keeps)
    e.names e.read_fault e.write_fault)
