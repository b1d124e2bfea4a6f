use Rattle.std.proofs.Common.{◌≡◌, Ok, ap, ◌∙◌, subst}
use Rattle.std.proofs.lemmas.Result.{IfOk-weaker}
use Rattle.spec_store.specs.Stale.{stale}
use Rattle.index_definition.specs.DefinitionView.{definition_view}
use Rattle.index_definition.specs.declared.definition.Definition.{Definition}
use Rattle.index_version.specs.Named.{NamedVersion}
use Rattle.index_version.specs.Entries.{all_entries}
use Rattle.spec_index.specs.Reduces.{reduce_of}
use Rattle.spec_query.specs.Binding.{bind, refusal_of}
use Rattle.spec_query.specs.Offering.{offered_of}
use Rattle.spec_query.specs.Query.{Ask}
use Rattle.spec_index.specs.World.{Slot, World, reads}
use Rattle.spec_server.specs.Asking.{Ready, answer_by, found_by}
use Rattle.spec_server.specs.Shown.{shown}
use Rattle.raven_reply.specs.ReplyView.{reply_view}
use Rattle.rql_eval.specs.FoundView.{found_view}
use Rattle.rql_plan.specs.RefusalView.{Refuses}
use Rattle.raven_snapshot.proofs.Asking.{all_told, answered, if_bound}
use Rattle.raven_snapshot.proofs.snapshot.Snapshot.ask_slot.Goals as goal

pub returns-in-Err-clause-reply : goal.returns-in-Err-clause-reply
returns-in-Err-clause-reply g c =
    let W = c.args.self.now in
    let s = c.args.slot.now in
    let ask = c.args.ask.now in
    let own : definition_view c.deref-2.result.now.body ≡ s.version.definition =
    ap (λ (d : Definition). definition_view d.body) c.deref-2.ensures ∙ c.definition.ensures.body ∙ ap (λ (v : NamedVersion). v.version.definition) c.deref.ensures ∙ ap (λ (x : Slot). x.version.definition) c.slot.view_is in
    let cause = subst (λ d. Refuses c.in-Err.refusal (refusal_of ask (offered_of d))) own c.in-Err.ensures.refused in
    IfOk-weaker c.refused.result _ _ (λ reply h. all_told s.version.table W ask s (reply_view reply) (h (Ready (answer_by s.version.table W ask s)) (refusal_of ask (offered_of s.version.definition)) cause)) c.refused.ensures

pub returns-clause-reply : goal.returns-clause-reply
returns-clause-reply g c =
    let W = c.args.self.now in
    let s = c.args.slot.now in
    let ask = c.args.ask.now in
    let q = c.in-Ok.plan in
    let own : definition_view c.deref-2.result.now.body ≡ s.version.definition =
    ap (λ (d : Definition). definition_view d.body) c.deref-2.ensures ∙ c.definition.ensures.body ∙ ap (λ (v : NamedVersion). v.version.definition) c.deref.ensures ∙ ap (λ (x : Slot). x.version.definition) c.slot.view_is in
    let found = c.in_ok-found.ensures.found
    ∙ ap (λ (v : NamedVersion). found_by (reduce_of v.version.definition) (shown c.self.inside.base.now) q (all_entries v.version) c.self.inside.store.now) c.deref-3.ensures
    ∙ ap (λ (x : Slot). found_by (reduce_of x.version.definition) (shown c.self.inside.base.now) q (all_entries x.version) c.self.inside.store.now) c.slot.view_is
    ∙ ap (λ (w : World). found_by (reduce_of s.version.definition) (shown w.setting.base) q (all_entries s.version) w.store) c.self.view_is in
    let etag = c.etag.ensures ∙ ap (λ (v : NamedVersion). v.version.etag) c.deref-5.ensures ∙ ap (λ (x : Slot). x.version.etag) c.slot.view_is in
    let name = c.in_ok-name.ensures ∙ c.as_str.ensures.spelling ∙ ap (λ (x : Slot). x.name) c.slot.view_is in
    let flag = c.is_stale-is_stale.ensures
    ∙ ap (λ (v : NamedVersion). stale c.self.inside.store.now (reads v.version) v.version.etag c.ask.inside.cutoff) c.deref-4.ensures
    ∙ ap (λ (x : Slot). stale c.self.inside.store.now (reads x.version) x.version.etag c.ask.inside.cutoff) c.slot.view_is
    ∙ ap (λ (w : World). stale w.store (reads s.version) s.version.etag c.ask.inside.cutoff) c.self.view_is
    ∙ ap (λ (a : Ask). stale W.store (reads s.version) s.version.etag a.cutoff) c.ask.view_is in
    if_bound s.version.table W ask s q _ (subst (λ d. bind ask (offered_of d) ≡ Ok q) own c.in-Ok.ensures.ok)
    (answered W ask s q _ (found_view c.in_ok-found.found) _ _ _ c.answer_of.ensures found etag name flag)
