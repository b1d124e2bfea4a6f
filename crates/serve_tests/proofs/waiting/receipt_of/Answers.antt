use Rattle.http_desk.proofs.Asked.{looks-here}
use Rattle.serve_tests.proofs.waiting.receipt_of.Goals as goal

pub ask-requires-clause-some : goal.ask-requires-clause-some
ask-requires-clause-some g c = looks-here _ c.args.request.now c.in-Ok.asks c.in-Ok.ensures.asked
