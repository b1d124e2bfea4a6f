use Rattle.std.proofs.Common.{◌≡◌, Bor, Ok, map, option_copied, ap, sym, ◌∙◌, subst}
use Rattle.std.proofs.lemmas.Result.{IfOk-weaker}
use Rattle.index_definition.specs.DefinitionView.{definition_view}
use Rattle.index_definition.specs.declared.definition.Definition.{Definition}
use Rattle.index_version.specs.Named.{NamedVersion}
use Rattle.spec_index.specs.World.{Slot, World}
use Rattle.spec_query.specs.Binding.{bind, refusal_of}
use Rattle.spec_query.specs.Offering.{offered_of}
use Rattle.spec_query.specs.Query.{Ask}
use Rattle.spec_server.specs.Asking.{Ready}
use Rattle.spec_server.specs.Several.{is_one_stale, recorded, together_if_bound}
use Rattle.raven_reply.specs.ReplyView.{reply_view}
use Rattle.rql_eval.specs.FoundView.{found_view}
use Rattle.rql_plan.specs.RefusalView.{Refuses}
use Rattle.multi_map.proofs.Answers.{answer-told, lent-versions, refusal-told}
use Rattle.multi_map.proofs.answer.answer_from.Goals as goal

pub returns-in-Err : goal.returns-in-Err
returns-in-Err c =
    let W = c.args.world.now in
    let first = c.args.first.now in
    let ask = c.args.ask.now in
    let parts = map (λ (s : Bor Slot). s.now) c.args.parts.now in
    let own : definition_view c.deref-2.result.now.body ≡ first.version.definition =
    ap (λ (d : Definition). definition_view d.body) c.deref-2.ensures ∙ c.definition.ensures.body ∙ ap (λ (v : NamedVersion). v.version.definition) c.deref.ensures ∙ ap (λ (x : Slot). x.version.definition) c.first.view_is in
    let cause = subst (λ d. Refuses c.in-Err.refusal (refusal_of ask (offered_of d))) own c.in-Err.ensures.refused in
    let none = sym c.other_part.ensures ∙ ap option_copied c.in-None.is in
    let told = together_if_bound recorded W ask c.args.name.now first parts (bind ask (offered_of first.version.definition)) in
    IfOk-weaker c.refused.result _ _ (λ reply h. refusal-told W ask c.args.name.now first parts (reply_view reply) none (h (Ready told) (refusal_of ask (offered_of first.version.definition)) cause)) c.refused.ensures

pub returns : goal.returns
returns c =
    let W = c.args.world.now in
    let first = c.args.first.now in
    let ask = c.args.ask.now in
    let q = c.in-Ok.plan in
    let parts = map (λ (s : Bor Slot). s.now) c.args.parts.now in
    let own : definition_view c.deref-2.result.now.body ≡ first.version.definition =
    ap (λ (d : Definition). definition_view d.body) c.deref-2.ensures ∙ c.definition.ensures.body ∙ ap (λ (v : NamedVersion). v.version.definition) c.deref.ensures ∙ ap (λ (x : Slot). x.version.definition) c.first.view_is in
    let none = sym c.other_part.ensures ∙ ap option_copied c.in-None.is in
    let flag = c.is_one_stale-is_stale.ensures ∙ ap (λ (w : World). is_one_stale w.store c.ask.inside.cutoff parts) c.world.view_is ∙ ap (λ (a : Ask). is_one_stale W.store a.cutoff parts) c.ask.view_is in
    answer-told W ask c.args.name.now c.in_ok-clone.field-0 first parts (map (λ (s : Bor Slot). s.now.version) c.args.parts.now) q _ (found_view c.in_ok-found.found) _ _ c.requires.first
    none (subst (λ d. bind ask (offered_of d) ≡ Ok q) own c.in-Ok.ensures.ok) c.answer_of.ensures (lent-versions (λ (s : Bor Slot). s.now) c.args.parts.now) c.in_ok-found.ensures
    c.least_etag-etag.ensures c.in_ok-clone.ensures.cases flag
