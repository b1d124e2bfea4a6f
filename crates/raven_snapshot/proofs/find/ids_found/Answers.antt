use Rattle.std.proofs.Common.{List, ℕ, false, filter, map, ap, sym, ◌∙◌}
use Rattle.std.proofs.lemmas.Result.{IfOk-weaker}
use Rattle.spec_data.specs.Scalars.{Is, words}
use Rattle.index_tree.specs.Meaning.{Fields}
use Rattle.index_definition.specs.DefinitionView.{definition_view}
use Rattle.index_definition.specs.declared.definition.Definition.{Definition}
use Rattle.index_version.specs.Entries.{all_entries}
use Rattle.spec_index.specs.World.{Version}
use Rattle.spec_query.specs.Condition.{Condition, Has, meets}
use Rattle.spec_server.specs.Answers.{has_reduce}
use Rattle.raven_snapshot.proofs.Asking.{no_reduce, texts_found}
use Rattle.raven_snapshot.proofs.find.ids_found.Goals as goal

pub returns-clause-ids : goal.returns-clause-ids
returns-clause-ids g c =
    let v = c.args.version.now.version in
    let plain = ap has_reduce (sym (ap (λ (d : Definition). definition_view d.body) c.deref.ensures ∙ c.definition.ensures.body)) ∙ sym c.has_reduce.ensures ∙ c.if-has_reduce.false in
    let asks = c.in_ok-condition.ensures ∙ ap (λ f. Has f (Is (words c.in_ok-clone.field-0))) c.in_ok-clone-2.ensures.cases ∙ ap (λ w. Has c.args.field.now (Is (words w))) c.in_ok-clone.ensures.cases in
    let met : Condition → Version → List (List ℕ) = λ k w. map (λ (e : List ℕ × Fields). e.0) (filter (λ (e : List ℕ × Fields). meets k false e.1) (all_entries w)) in
    IfOk-weaker c.ids_that_meet.result _ _ (λ ids h. texts_found v c.args.field.now c.args.words.now ids plain (h ∙ ap (λ k. met k c.of-entries.result) asks ∙ ap (met (Has c.args.field.now (Is (words c.args.words.now)))) c.of-entries.ensures)) c.ids_that_meet.ensures.ids

pub of-entries-requires : goal.of-entries-requires
of-entries-requires g c = no_reduce c.args.version.now.version.definition (ap has_reduce (sym (ap (λ (d : Definition). definition_view d.body) c.deref.ensures ∙ c.definition.ensures.body)) ∙ sym c.has_reduce.ensures ∙ c.if-has_reduce.false)
