use Rattle.std.proofs.Common.{ap, sym, ◌∙◌}
use Rattle.std.proofs.lemmas.Result.{IfOk-weaker}
use Rattle.std.specs.Option.{option_map}
use Rattle.index_definition.specs.ShapeView.{shape_view}
use Rattle.spec_query.specs.Query.{Ask}
use Rattle.rql_plan.specs.Shapes.{shape_if_any}
use Rattle.raven_reply.specs.ReplyView.{reply_view}
use Rattle.spec_server.specs.Asking.{Ready}
use Rattle.raven_snapshot.specs.AnsweredView.{answered_view}
use Rattle.raven_snapshot.proofs.Asking.{asks_whole, told_picked, told_whole}
use Rattle.raven_snapshot.proofs.snapshot.Snapshot.ask_collection.Goals as goal

pub returns-in-Some-clause-answer : goal.returns-in-Some-clause-answer
returns-in-Some-clause-answer g c =
    let asks = sym (ap (option_map shape_view) c.in-Some.is) ∙ c.in_ok-shape.ensures ∙ ap (λ (a : Ask). shape_if_any a.query) c.ask.view_is in
    IfOk-weaker c.ask_picked.result _ _ (λ answered h. told_picked c.args.self.now c.args.ask.now c.args.collection.now (shape_view c.in-Some.shape) (answered_view answered) c.requires.origin asks h) c.ask_picked.ensures.answer

pub ask_whole-requires : goal.ask_whole-requires
ask_whole-requires g c =
    let asks = sym (ap (option_map shape_view) c.in-None.is) ∙ c.in_ok-shape.ensures ∙ ap (λ (a : Ask). shape_if_any a.query) c.ask.view_is in
    record { whole = asks_whole c.args.ask.now.query c.args.collection.now c.requires.origin asks }

pub returns-in_ok-ask_whole-in-None-clause-answer : goal.returns-in_ok-ask_whole-in-None-clause-answer
returns-in_ok-ask_whole-in-None-clause-answer g c =
    let asks = sym (ap (option_map shape_view) c.in-None.is) ∙ c.in_ok-shape.ensures ∙ ap (λ (a : Ask). shape_if_any a.query) c.ask.view_is in
    told_whole c.args.self.now c.args.ask.now c.args.collection.now (Ready (reply_view c.in_ok-ask_whole-in-None.field-0)) c.requires.origin
    (asks_whole c.args.ask.now.query c.args.collection.now c.requires.origin asks) c.in_ok-ask_whole-in-None.ensures
