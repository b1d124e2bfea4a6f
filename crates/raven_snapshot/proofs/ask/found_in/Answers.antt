use Rattle.std.proofs.Common.{ap, sym, ◌∙◌}
use Rattle.std.proofs.lemmas.Result.{IfOk-weaker}
use Rattle.index_definition.specs.DefinitionView.{definition_view}
use Rattle.index_definition.specs.declared.definition.Definition.{Definition}
use Rattle.spec_server.specs.Answers.{has_reduce}
use Rattle.spec_server.specs.Shown.{shown}
use Rattle.rql_eval.specs.FoundView.{found_view}
use Rattle.raven_snapshot.proofs.Asking.{by_rows, no_reduce}
use Rattle.raven_snapshot.proofs.ask.found_in.Goals as goal

pub returns-then-has_reduce-clause-found : goal.returns-then-has_reduce-clause-found
returns-then-has_reduce-clause-found g c =
    let grouped = ap has_reduce (sym (ap (λ (d : Definition). definition_view d.body) c.deref.ensures ∙ c.definition.ensures.body)) ∙ sym c.has_reduce.ensures ∙ c.if-has_reduce.true in
    IfOk-weaker c.find_in_rows.result _ _ (λ found h. by_rows c.args.version.now.version (shown c.args.base.now) c.args.plan.now c.args.store.now (found_view found) c.as_slice.result.now grouped (c.as_slice.ensures ∙ c.in_ok-groups.ensures) h) c.find_in_rows.ensures

pub of-entries-requires : goal.of-entries-requires
of-entries-requires g c = no_reduce c.args.version.now.version.definition (ap has_reduce (sym (ap (λ (d : Definition). definition_view d.body) c.deref.ensures ∙ c.definition.ensures.body)) ∙ sym c.has_reduce.ensures ∙ c.if-has_reduce.false)
