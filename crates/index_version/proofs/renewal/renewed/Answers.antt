use Rattle.std.proofs.Common.{◌≡◌, ◌++◌, ◌∷◌, [], map, length, ap, sym, subst, ◌∙◌, append_assoc, append-nil, arith}
use Rattle.std.specs.List.{All}
use Rattle.std.specs.Vec.Iter.{into_iter_items}
use Rattle.std.proofs.lemmas.List.{nil_from_length}
use Rattle.std.proofs.lemmas.List.Elements.{All-head, All-tail}
use Rattle.spec_data.specs.Folding.{folded}
use Rattle.index_tree.specs.Mapper.{mapper_of}
use Rattle.index_definition.specs.DefinitionView.{definition_view}
use Rattle.reference_track.specs.Folded.{by_folded}
use Rattle.index_version.specs.Asked.{IsAnswered}
use Rattle.index_version.specs.Renewed.{ArePaired, AreRenewed}
use Rattle.index_version.proofs.Answering.{folded_answered, folded_ids, none_paired, none_renewed, paired_answer, renewed_answer}
use Rattle.index_version.proofs.renewal.renewed.Given.{Over}
use Rattle.index_version.proofs.renewal.renewed.Goals as goal
use Rattle.index_version.proofs.renewal.renewed.Goals.{In-None}

pub loop-answer-init : goal.loop-answer-init
loop-answer-init g c =
    let m = mapper_of (definition_view c.args.definition.now.body) in
    let T = c.args.table.now in
    let items = c.into_iter-answer-iterator.ensures.into_iter_gives.0 in
    record {
      ids = ap folded_ids items ∙ folded_answered c.in_ok-all.all.items c.args.ids.now c.in_ok-all.ensures.ids;
      answered = subst (All (IsAnswered m T)) (sym items) c.in_ok-all.ensures.answered;
      left = c.into_iter-answer-iterator.ensures.into_iter_gives.1 ∙ c.in_ok-all.all.ok.0 ∙ ap length (sym items);
      results = subst (λ k. AreRenewed m T [] (by_folded c.args.kept.now.given) (by_folded k.given)) (sym c.in_ok-new.ensures) (none_renewed m T (by_folded c.args.kept.now.given));
      pairs = subst (λ k. ArePaired m T [] c.args.kept.now.referrers k.referrers) (sym c.in_ok-new.ensures) (none_paired m T c.args.kept.now.referrers);
    }

pub loop-answer-preserved : goal.loop-answer-preserved
loop-answer-preserved g c =
    let m = mapper_of (definition_view c.args.definition.now.body) in
    let T = c.args.table.now in
    let done = c.loop-answer.yielded in
    let a = c.in-Some.answer in
    let rest = into_iter_items c.next.new.self in
    let split = c.in-Some.ensures.steps.0 in
    let all = subst (All (IsAnswered m T)) split c.loop-answer.invariant.answered in
    let answered = All-head (IsAnswered m T) a rest all in
    record {
      ids = ap folded_ids (append_assoc done (a ∷ []) rest) ∙ ap (λ left. folded_ids (done ++ left)) (sym split) ∙ c.loop-answer.invariant.ids;
      answered = All-tail (IsAnswered m T) a rest all;
      left =
          let was = c.loop-answer.invariant.left in
          let gone = c.in-Some.ensures.steps.1 in
          let short = ap length split in
          omega arith;
      results = renewed_answer m T done a c.in_ok-answer.field-0 (by_folded c.args.kept.now.given) (by_folded c.loop-answer.new.given) (by_folded c.in_ok-new-2.new.given) answered c.in_ok-answer.was
          c.loop-answer.invariant.results c.in_ok-new-2.ensures.results;
      pairs = paired_answer m T done a c.in_ok-answer.field-0 c.args.kept.now.referrers c.loop-answer.new.referrers c.in_ok-new-2.new.referrers answered c.in_ok-answer.was
          c.loop-answer.invariant.pairs c.in_ok-new-2.ensures.pairs;
    }

-- at the end all answers are stored
whole : (g : Over) (c : In-None g) → folded_ids c.loop-answer.yielded ≡ map folded c.args.ids.now
whole g c =
    let none = nil_from_length (into_iter_items c.loop-answer.answer-iterator) (sym c.loop-answer.invariant.left ∙ c.in-None.ensures.steps.0) in
    ap folded_ids (sym (append-nil c.loop-answer.yielded) ∙ ap (λ left. c.loop-answer.yielded ++ left) (sym none)) ∙ c.loop-answer.invariant.ids

pub returns-clause-results : goal.returns-clause-results
returns-clause-results g c =
    subst (λ ids. AreRenewed (mapper_of (definition_view c.args.definition.now.body)) c.args.table.now ids (by_folded c.args.kept.now.given) (by_folded c.loop-answer.new.given))
    (whole g (goal.at.returns-clause-results g c).In-None) c.loop-answer.invariant.results

pub returns-clause-pairs : goal.returns-clause-pairs
returns-clause-pairs g c =
    subst (λ ids. ArePaired (mapper_of (definition_view c.args.definition.now.body)) c.args.table.now ids c.args.kept.now.referrers c.loop-answer.new.referrers)
    (whole g (goal.at.returns-clause-pairs g c).In-None) c.loop-answer.invariant.pairs
