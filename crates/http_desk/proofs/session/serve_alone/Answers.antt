use Rattle.http_desk.proofs.Chained.{kept-alone, served-alone}
use Rattle.http_desk.proofs.session.serve_alone.Goals as goal

pub returns-clause-served : goal.returns-clause-served
returns-clause-served g c =
    served-alone (g.S.Source.state c.args.source.now).left (g.O.Sink.state c.args.sink.now).held (g.O.Sink.state c.serve-why.new.sink).held c.serve-why.result c.new-answers.result c.args.desk c.args.database
    c.serve-why.new.answerer c.finish.result c.new-answers.ensures c.finish.ensures c.serve-why.ensures.kept c.serve-why.ensures.served

pub returns-clause-kept : goal.returns-clause-kept
returns-clause-kept g c =
    kept-alone c.new-answers.result c.args.desk c.args.database c.serve-why.new.answerer c.finish.result c.new-answers.ensures c.finish.ensures c.serve-why.ensures.kept
