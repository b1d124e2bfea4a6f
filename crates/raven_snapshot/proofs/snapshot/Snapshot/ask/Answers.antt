use Rattle.std.proofs.Common.{ap, sym, ◌∙◌}
use Rattle.std.proofs.lemmas.Result.{IfOk-weaker}
use Rattle.spec_query.specs.Query.{Ask}
use Rattle.rql_tree.specs.View.{origin_of}
use Rattle.raven_snapshot.specs.AnsweredView.{answered_view}
use Rattle.raven_snapshot.proofs.Asking.{told_index}
use Rattle.raven_snapshot.proofs.snapshot.Snapshot.ask.Goals as goal

pub returns-in-Index-clause-answer : goal.returns-in-Index-clause-answer
returns-in-Index-clause-answer g c =
    let origin = ap (λ (a : Ask). a.query.origin) (sym c.ask.view_is) ∙ sym (λ i. (c.ask-inside.view_is i).query.origin) ∙ ap origin_of c.in-Index.is in
    IfOk-weaker c.ask_index.result _ _ (λ answered h. told_index c.args.self.now c.args.ask.now c.in-Index.name (answered_view answered) origin h) c.ask_index.ensures.answer
